use Rattle.calls.proofs.Reading.{natural_back, natural_only, integer_back, integer_only}
use Rattle.script_reader.proofs.numbers.numbers_are_read_back.Goals as goal

pub returns : goal.returns
returns c = record { natural_back = natural_back; natural_only = natural_only; integer_back = integer_back; integer_only = integer_only }
