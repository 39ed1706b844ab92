use Rattle.std.proofs.Common.{false, arith}
use Rattle.std.proofs.lemmas.Grind.{common_steps}
use Rattle.std.proofs.lemmas.List.{get_or-replicate}
use Rattle.remembered_tests.proofs.flag_set.FlagSet.new.Goals as goal

pub returns : goal.returns
returns c car address = let none = get_or-replicate 64 car false false in grind (arith, common_steps, none)
