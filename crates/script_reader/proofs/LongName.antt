-- The longest name, which the search does not spell to its end.
use Rattle.std.proofs.Common.{◌≡◌, ℕ, List, length, get_or, Some, codes, ap}
use Rattle.std.proofs.lemmas.Slice.Eq.{text_from_reads}
use Rattle.script_reader.specs.declared.names.Name.TheVariants.{Follow}
use Rattle.script_reader.specs.Names.{called}

pub called_follow : (w : List ℕ) → length w ≡ 6 → get_or w 0 0 ≡ 102 → get_or w 1 0 ≡ 111 → get_or w 2 0 ≡ 108 → get_or w 3 0 ≡ 108 → get_or w 4 0 ≡ 111 → get_or w 5 0 ≡ 119 → called w ≡ Some Follow
called_follow w n f o l k e s = ap called (text_from_reads w (codes "follow") n (f, (o, (l, (k, (e, (s, tt)))))))
