-- The slots with their values, which are lent where they stand.
use Rattle.std.specs.Prelude.{ℕ, true, List, [], ◌∷◌, Option, Some, None, slice_get, slice_set, refl}
use Rattle.std.specs.Coded.{Coded, code_by, coded×, coded_list}
use Rattle.std.specs.Borrow.{MutBor, GName}
use mathlib.Core.Option as maybe
use Rattle.esync_base.specs.declared.waitqueue.Poll.{Poll}
use Rattle.esync_base.specs.declared.waitqueue.Poll.TheVariants.{Pending, Ready}
use Rattle.esync_zerocopy.specs.Slots.{Sides, sides_code, Waiting, waiting_code, before, with_out}
use Rattle.esync_zerocopy.specs.declared.zerocopy_channel.Side.{Side}

-- the slots: whose turn each is, and the value of each by its number
pub record Slots (T : Type 0) : Type 0 where
  pub sides : Sides
  pub values : List T

-- the slots, and the wakers of the sides that wait for one
pub record Lending (T W : Type 0) : Type 0 where
  pub slots : Slots T
  pub waiting : Waiting W

abbrev pub lending_code : {T W : Type 0} → Coded T → Coded W → Coded (Lending T W)
lending_code {T} {W} t w =
    code_by (Sides × (List T × Waiting W)) (coded× sides_code (coded× (coded_list t) (waiting_code w)))
    (λ l. (l.slots.sides, (l.slots.values, l.waiting)))
    (λ p. record { slots = record { sides = p.0; values = p.1.0 }; waiting = p.1.1 })
    (λ _. refl)

module _ {T : Type 0} where
  -- the value of the first of these slots
  abbrev pub first_value : List ℕ → List T → Option T
  first_value [] values = None
  first_value (i ∷ is) values = slice_get values i

  -- the values after the first of these slots was written
  abbrev pub first_written : List ℕ → List T → T → List T
  first_written [] values v = values
  first_written (i ∷ is) values v = slice_set values i v

  -- the slots after a side took its next one out and left the value v in it
  abbrev pub lent_with : Side → Slots T → T → Slots T
  lent_with side s v = record { sides = with_out side true s.sides; values = first_written (before side s.sides) s.values v }

  -- the value of the slot that a try lends, if any
  abbrev pub value_lent : Option (MutBor T) → Option T
  value_lent None = None
  value_lent (Some r) = Some r.now

  -- the value of the slot that a poll lends, if any
  abbrev pub value_polled : Poll (MutBor T) → Option T
  value_polled Pending = None
  value_polled (Ready r) = Some r.now

  abbrev pub name_polled : Poll (MutBor T) → maybe.Option GName
  name_polled Pending = maybe.none
  name_polled (Ready r) = maybe.some r.ghost_name
