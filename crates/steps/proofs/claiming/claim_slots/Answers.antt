use Rattle.std.proofs.Common.{◌≡◌, ℕ, ◌+◌, ◌/◌, [], ◌∷◌, ◌++◌, length, take, get_or, sym, ap, ◌∙◌, append_assoc, arith}
use Rattle.std.proofs.lemmas.List.{take_all, length-map}
use Rattle.model.specs.Claims.{ref_requests, claims}
use Rattle.model.specs.Notes.{Slot}
use Rattle.trains.specs.Orders.{rank_of}
use Rattle.claims.proofs.Claimed.{claimed_last}
use Rattle.steps.specs.Claiming.{slot_requests}
use Rattle.steps.proofs.ClaimingRequests.{claimed_for, slot_at}
use Rattle.steps.proofs.claiming.claim_slots.Goals as goal

pub loop-slot-preserved : goal.loop-slot-preserved
loop-slot-preserved g c = λ at f ss ws stands own car addrs words before.
    let i = c.loop-slot.slot-index in
    let rank : ℕ → ℕ = λ n. rank_of n c.args.trains.now.trains in
    let r = slot_at at c.args.words.now rank ss i (omega (arith, ap length addrs, c.loop-slot-test.true)) words in
    let here : get_or c.args.slots.now i 0 ≡ r.slot.address = sym (ap (λ xs. get_or xs i 0) addrs) ∙ r.address in
    let k : c.rank-rank.result ≡ rank (r.slot.address / 128) = c.rank-rank.ensures ∙ ap (λ (x : ℕ). rank (x / 128)) here in
    let so_far = ws ++ slot_requests rank (take i ss) in
    let h = r.slot.target in
    claimed_for (so_far ++ ref_requests c.rank-rank.result (h ∷ [])) (ws ++ slot_requests rank (take (i + 1) ss))
    (append_assoc ws (slot_requests rank (take i ss)) (ref_requests c.rank-rank.result (h ∷ []))
    ∙ ap (λ us. ws ++ us) (ap (λ j. slot_requests rank (take i ss) ++ ref_requests j (h ∷ [])) k ∙ sym r.asks))
    (claimed_last so_far c.rank-rank.result h c.claim.new.self
    (c.claim.ensures f at h (claims so_far f.objects).taken (claims so_far f.objects).left stands own car (ap (λ (x : ℕ). get_or c.args.words.now x 0) here ∙ r.word)
    (c.loop-slot.invariant at f ss ws stands own car addrs words before)))

pub returns : goal.returns
returns g c = λ at f ss ws stands own car addrs words before.
    let i = c.loop-slot.slot-index in
    let rank : ℕ → ℕ = λ n. rank_of n c.args.trains.now.trains in
    claimed_for (ws ++ slot_requests rank (take i ss)) (ws ++ slot_requests rank ss)
    (ap (λ us. ws ++ slot_requests rank us) (take_all i ss (omega (arith, ap length addrs, c.loop-slot-test.false, length-map {A = Slot} {B = ℕ} ss (λ s. s.address)))))
    (c.loop-slot.invariant at f ss ws stands own car addrs words before)
