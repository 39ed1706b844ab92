-- What clauses see of a space: its memory, and the remembered set.
use Rattle.memory.specs.Heap.{Heap}

pub record Held (R : Type 0) : Type 0 where
  pub heap : Heap
  pub set : R
