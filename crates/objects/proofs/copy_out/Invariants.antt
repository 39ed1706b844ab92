use Rattle.std.proofs.Common.{◌≡◌, ◌≤◌, ◌++◌, length, take, drop}
use Rattle.objects.specs.Words.{OfObject}
use Rattle.objects.proofs.copy_out.Given as goal

-- as many of the data words as were copied stand at the buffer's front
abbrev pub invariant-loop-j : goal.invariant-loop-j
invariant-loop-j g l = OfObject g.L.Layout.table g.L.Layout.code l.words l.object (λ b. (length b.values ≡ l.count) × (l.count ≤ length l.initial.buffer) × (l.buffer ≡ take l.j b.values ++ drop l.j l.initial.buffer))
