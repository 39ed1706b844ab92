-- How many references and data words an object has.
use Rattle.layout.specs.declared.laws.Counts.{Counts}
use Rattle.layout.specs.ShapeTable.{Offsets}

abbrev pub counts_of : Offsets → Counts
counts_of o = record { references = o.refs; data_words = o.words }
