use Rattle.objects.proofs.Written.{Written}
use Rattle.objects.proofs.write_new.Given as goal

abbrev pub invariant-loop-offset : goal.invariant-loop-offset
invariant-loop-offset g l = Written (g.L.Layout.decoded l.header) l.header l.fn.words l.words l.object l.offset
