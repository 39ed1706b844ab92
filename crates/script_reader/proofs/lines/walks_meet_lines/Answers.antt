use Rattle.script_reader.proofs.Walks.{walked, in_order, counted}
use Rattle.script_reader.proofs.lines.walks_meet_lines.Goals as goal

pub returns : goal.returns
returns c = record { walked = walked; in_order = in_order; counted = counted }
