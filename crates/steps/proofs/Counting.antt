-- Counting the objects of a car from header to header.
use Rattle.std.proofs.Common.{◌≡◌, ℕ, ◌+◌, ◌*◌, ◌<◌, ◌≤◌, List, [], ◌∷◌, length, get_or, sym, subst, arith, min}
use Rattle.layout.specs.Coding.{Coded, size_of}
use Rattle.layout.specs.ShapeTable.{ShapeTable, Offsets, Lawful}
use Rattle.layout.specs.declared.Shape.{Shape}
use Rattle.model.specs.Bodies.{size}
use Rattle.model.specs.Trains.{Obj, Car, words_of, car_words}
use Rattle.model.proofs.Totals.{sums}
use Rattle.objects.specs.Lies.{LieFrom, CarStands}
use Rattle.objects.proofs.Objects.{lies_tells}

-- a count of objects stands at an address of a car: so many were passed, and those ahead stand from there on
pub record Counts (M : ShapeTable) (code : Shape → ℕ) (at : ℕ → ℕ) (words : List ℕ) (c : Car) (address counted : ℕ) : Type 0 where
  pub ahead : List Obj
  pub all : length c.objects ≡ counted + length ahead
  pub lie : LieFrom M code at words address ahead
  pub here : address + words_of ahead ≡ car_words * c.number + words_of c.objects

pub counts_none : (M : ShapeTable) (code : Shape → ℕ) (at : ℕ → ℕ) (words : List ℕ) (c : Car) (a : ℕ) → CarStands M code at words c → a ≡ car_words * c.number → Counts M code at words c a 0
counts_none M code at words c a s e = record {
  ahead = c.objects;
  all = omega arith;
  lie = subst (λ (k : ℕ). LieFrom M code at words k c.objects) (sym e) s.lies;
  here = omega (arith, e);
}

module _ (M : ShapeTable) (code : Shape → ℕ) (decoded : ℕ → Offsets) (law : Lawful M) (coded : Coded M code decoded) (at : ℕ → ℕ) (words : List ℕ) (c : Car) where
  pub counts_more : (address counted end : ℕ) → Counts M code at words c address counted → end ≡ car_words * c.number + words_of c.objects → end ≤ 8192 → address < end
      → Counts M code at words c (min (address + size_of (decoded (get_or words address 0))) 4294967295) (counted + 1)
  counts_more address counted end w e few l = go w.ahead w.all w.lie w.here
    where
      go : (ahead : List Obj) → length c.objects ≡ counted + length ahead → LieFrom M code at words address ahead
          → address + words_of ahead ≡ car_words * c.number + words_of c.objects
          → Counts M code at words c (min (address + size_of (decoded (get_or words address 0))) 4294967295) (counted + 1)
      go [] all lie here = absurd (omega (arith, here, e, l))
      go (o ∷ os) all lie here =
          let t = lies_tells M code decoded law coded at words address o.body lie.0 in
          let k : min (address + size_of (decoded (get_or words address 0))) 4294967295 ≡ address + size o.body = omega (arith, sums, t.whole, t.most, here, e, few) in
          record {
            ahead = os;
            all = omega (arith, all);
            lie = subst (λ (k : ℕ). LieFrom M code at words k os) (sym k) lie.1;
            here = omega (arith, sums, k, here);
          }

  pub counts_all : (address counted end : ℕ) → CarStands M code at words c → Counts M code at words c address counted → end ≡ car_words * c.number + words_of c.objects → end ≤ address
      → counted ≡ length c.objects
  counts_all address counted end s w e l = go w.ahead w.all w.lie w.here
    where
      go : (ahead : List Obj) → length c.objects ≡ counted + length ahead → LieFrom M code at words address ahead
          → address + words_of ahead ≡ car_words * c.number + words_of c.objects → counted ≡ length c.objects
      go [] all lie here = omega (arith, all)
      go (o ∷ os) all lie here =
          let t = lies_tells M code decoded law coded at words address o.body lie.0 in
          absurd (omega (arith, sums, t.least, here, e, l))
