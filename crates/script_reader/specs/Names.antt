-- The calls' names.
use Rattle.std.specs.Prelude.{ℕ, cond, List, Some, None, codes, Option}
use Rattle.std.specs.Str.{bytes_eq}
use Rattle.script_reader.specs.declared.names.Name.{Name}
use Rattle.script_reader.specs.declared.names.UnknownName.{UnknownName}
use Rattle.script_reader.specs.declared.names.Name.TheVariants.{Make, Link, Follow, Drop, Put, Lift, Get, Same, Step, Tally}

-- the call that a word names
abbrev pub called : List ℕ → Option Name
called w =
    cond (bytes_eq w (codes "make")) (Some Make)
    (cond (bytes_eq w (codes "link")) (Some Link)
    (cond (bytes_eq w (codes "follow")) (Some Follow)
    (cond (bytes_eq w (codes "drop")) (Some Drop)
    (cond (bytes_eq w (codes "put")) (Some Put)
    (cond (bytes_eq w (codes "lift")) (Some Lift)
    (cond (bytes_eq w (codes "get")) (Some Get)
    (cond (bytes_eq w (codes "same")) (Some Same)
    (cond (bytes_eq w (codes "step")) (Some Step)
    (cond (bytes_eq w (codes "tally")) (Some Tally) None)))))))))

-- why a word that names no call is no name
abbrev pub unknown_name : UnknownName
unknown_name = record {}

-- how many numbers stand behind a call's name
abbrev pub count_of : Name → ℕ
count_of Make = 4
count_of Link = 3
count_of Follow = 3
count_of Drop = 1
count_of Put = 3
count_of Lift = 3
count_of Get = 2
count_of Same = 2
count_of Step = 0
count_of Tally = 0
