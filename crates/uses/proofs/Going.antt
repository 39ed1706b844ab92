-- From what a call does to the memory to what it does to the space.
use Rattle.std.proofs.Common.{◌≡◌, ℕ, List, [], ◌∷◌, ◌++◌, reverse, refl, sym, ap, ◌∙◌, subst}
use Rattle.std.proofs.lemmas.List.{append-nil}
use Rattle.calls.specs.declared.call.Call.{Call}
use Rattle.layout.specs.declared.Shape.{Shape}
use Rattle.layout.specs.ShapeTable.{ShapeTable, Lawful}
use Rattle.remembered.specs.declared.Update.{Update}
use Rattle.remembered.specs.Leads.{Leads, IsExact}
use Rattle.remembered.specs.Leads.Leads.{untold}
use Rattle.remembered.specs.LeadsLaws.{leads_append, leads_keep}
use Rattle.remembered.specs.Laws.{Keeps, HasNone}
use Rattle.remembered.specs.Updates.{Pairs, Updates, no_pairs, still_noted}
use Rattle.model.specs.Calls.{Reply, History, refusal_in}
use Rattle.model.specs.Notes.{tell}
use Rattle.model.specs.Space.{act, space_of, updates_of, opening}
use Rattle.model.specs.Exact.{HasWhatIsMeant}
use Rattle.model.proofs.Exact.{exact_law}
use Rattle.model.proofs.Refuses.{refusals_law}
use Rattle.model.proofs.RememberTold.{still_noted_more}
use Rattle.memory.specs.Heap.{Heap}
use Rattle.memory.specs.Stands.{Stands, Continues, ContinuesTelling, Known}
use Rattle.uses.specs.Held.{Held}
use Rattle.uses.specs.Uses.{Went, Brings, event, GoesOn, IsTold, RefusesFirst, IsReached}
use Rattle.uses.specs.Uses.Went.{opened, called}
use Rattle.uses.specs.Laws.{held, CallsGoOn, RepliesFollow}

module _ {R : Type 0} (M : ShapeTable) (code : Shape → ℕ) (has : R → Pairs) (says : R → Update → R → Type 0) where
  -- the set was told what the history tells
  pub way_of : (s t : R) (h : History) → Went M has says s h t → Leads has says s (updates_of M h) t
  way_of s _ [] (opened _) = untold s
  way_of s v (e ∷ h) (called _ t _ _ _ before p said) =
      let more = (act M e.call (space_of M h)).updates in
      subst (λ (us : List Update). Leads has says s (us ++ updates_of M h) v) (append-nil (reverse more))
      (leads_append has says s t v (updates_of M h) (tell more []) (way_of s t h before) said)

  -- so it has what is still noted
  pub keeps_of : (h : History) (s : Held R) → Brings M code has says h s → Keeps (still_noted no_pairs (updates_of M h)) (has s.set)
  keeps_of h s b = λ c a e. leads_keep has says b.opened_with s.set (updates_of M h) (way_of b.opened_with s.set h b.went) c a
      (still_noted_more (has b.opened_with) (updates_of M h) c a e)

  pub opens : (heap : Heap) (set : R) → Stands M code opening heap → Brings M code has says [] (held heap set)
  opens heap set st = record { is_use = tt; stands = st; opened_with = set; went = opened set }

  pub known_of : (s : Held R) → IsReached M code has says s → Known M code s.heap
  known_of s r = (r.history, r.brings.stands)

  -- one event more, where the memory stands and the set was told what the call tells
  pub brings_more : (call : Call) (reply : Reply) (before after : Heap) (old new : R) (h : History) → Brings M code has says h (held before old)
      → reply ≡ (act M call (space_of M h)).reply (has old) → Stands M code (act M call (space_of M h)).state after
      → Leads has says old (tell (act M call (space_of M h)).updates []) new
      → Brings M code has says (event call reply (has old) ∷ h) (held after new)
  brings_more call reply before after old new h b p st said = record {
    is_use = (p, b.is_use);
    stands = st;
    opened_with = b.opened_with;
    went = called b.opened_with old new (event call reply (has old)) h b.went refl said;
  }

  -- a call that tells the set nothing
  pub goes_on : (call : Call) (reply : Reply) (before after : Heap) (set : R) → Continues M code call reply before after
      → GoesOn M code has says call reply (held before set) (held after set)
  goes_on call reply before after set acts h b =
      let a = acts h b.stands in
      brings_more call reply before after set set h b (sym (a.answered (has set))) a.stands
      (subst (λ (us : List Update). Leads has says set (tell us []) set) (sym a.updates) (untold set))

  pub is_told : (call : Call) (reply : Reply) (before after : Heap) (set : R) → Continues M code call reply before after → IsTold M code has says call (held before set) (held after set)
  is_told call reply before after set acts h b = let a = acts h b.stands in subst (λ (us : List Update). Leads has says set (tell us []) set) (sym a.updates) (untold set)

  pub reached : (call : Call) (reply : Reply) (before after : Heap) (set : R) → Continues M code call reply before after
      → IsReached M code has says (held before set) → IsReached M code has says (held after set)
  reached call reply before after set acts r = record { history = _; brings = goes_on call reply before after set acts r.history r.brings }

  pub refuses_first : Lawful M → (call : Call) (reply : Reply) (before after : Heap) (set : R) → Continues M code call reply before after
      → RefusesFirst M code has says call reply (held before set)
  refuses_first law call reply before after set acts h b =
      let a = acts h b.stands in
      ap (λ (p : Reply). refusal_in p.answer) (sym (a.answered no_pairs)) ∙ (refusals_law.refused_at M law h call).smallest no_pairs

  -- a link tells the set what it notes
  pub links_on : (call : Call) (reply : Reply) (before after : Heap) (old new : R) → ContinuesTelling M code has says call reply before after old new
      → GoesOn M code has says call reply (held before old) (held after new)
  links_on call reply before after old new links h b =
      let l = links h b.stands in
      brings_more call reply before after old new h b (sym (l.0.answered (has old))) l.0.stands l.1

  pub link_reached : (call : Call) (reply : Reply) (before after : Heap) (old new : R) → ContinuesTelling M code has says call reply before after old new
      → IsReached M code has says (held before old) → IsReached M code has says (held after new)
  link_reached call reply before after old new links r = record { history = _; brings = links_on call reply before after old new links r.history r.brings }

  pub link_refuses_first : Lawful M → (call : Call) (reply : Reply) (before after : Heap) (old new : R) → ContinuesTelling M code has says call reply before after old new
      → RefusesFirst M code has says call reply (held before old)
  link_refuses_first law call reply before after old new links h b =
      let l = links h b.stands in
      ap (λ (p : Reply). refusal_in p.answer) (sym (l.0.answered no_pairs)) ∙ (refusals_law.refused_at M law h call).smallest no_pairs

  pub calls_go_on : Lawful M → CallsGoOn M code has says
  calls_go_on law = record {
    opened = opens;
    quiet = λ call reply before after set acts.
        (goes_on call reply before after set acts, is_told call reply before after set acts, refuses_first law call reply before after set acts);
    links = λ call reply before after old new l. (links_on call reply before after old new l, link_refuses_first law call reply before after old new l);
    any_call = brings_more;
    overlooks = keeps_of;
  }

module _ {R : Type 0} (M : ShapeTable) (has : R → Pairs) (says : R → Update → R → Type 0) (means : Updates → Pairs) (exact : IsExact has says means) where
  -- each call found the set with the pairs that its updates mean
  had_what_is_meant : (s t : R) (h : History) → HasNone (has s) → Went M has says s h t → HasWhatIsMeant M means h
  had_what_is_meant s _ [] n (opened _) = tt
  had_what_is_meant s _ (e ∷ h) n (called _ t v _ _ before p said) =
      ((λ c a. ap (λ (P : Pairs). P c a) p ∙ exact s t (updates_of M h) n (way_of M (λ q. 0) has says s t h before) c a), had_what_is_meant s t h n before)

  pub replies_follow : RepliesFollow M has says means
  replies_follow s t h n u went = exact_law M means h u (had_what_is_meant s t h n went)
