-- What is wrong with a line.
use Rattle.std.specs.Prelude.{ℕ}
use Rattle.calls.specs.declared.faults.Position.{Position}
use Rattle.calls.specs.declared.faults.WordFault.{WordFault}
use Rattle.calls.specs.declared.faults.OtherFault.{OtherFault}
use Rattle.calls.specs.declared.faults.LineFault.{LineFault}
use Rattle.calls.specs.declared.faults.LineFault.TheVariants.{Words, Number, Other}
use Rattle.calls.specs.declared.faults.PlayerFault.{PlayerFault}
use Rattle.calls.specs.declared.faults.PlayerFault.TheVariants.{Reader}

-- this place of the line with number n
abbrev pub position_at : ℕ → ℕ → Position
position_at n at = record { line = n; place = at }

-- the word at this place of the line with number n is not a number of its range
abbrev pub no_number : ℕ → ℕ → WordFault
no_number n at = record { at = position_at n at }

-- the words of the line with number n make no call, and this is the place that is told
abbrev pub bad_words : ℕ → ℕ → LineFault
bad_words n at = Words (position_at n at)

-- a word's fault as its line's
abbrev pub line_fault : WordFault → LineFault
line_fault f = Number f

-- a fault of any number as its line's
abbrev pub other_fault : OtherFault → LineFault
other_fault f = Other f

-- a line's fault as the player's
abbrev pub player_fault : LineFault → PlayerFault
player_fault f = Reader f

-- the number that a line shows for a fault
abbrev pub fault_number : LineFault → ℕ
fault_number (Words at) = 9
fault_number (Number f) = 10
fault_number (Other f) = f.number

-- where a fault is
abbrev pub fault_position : LineFault → Position
fault_position (Words at) = at
fault_position (Number f) = f.at
fault_position (Other f) = f.at
