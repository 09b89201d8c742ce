-- What a lazy lock allows. It hands out no waker, and no task waits for it.
use Rattle.std.specs.Prelude.{◌≡◌, Option, Some, None}
use Rattle.esync_machine.specs.declared.primitive.Answer.{Answer}
use Rattle.esync_machine.specs.declared.primitive.Answer.TheVariants.{NoSuch, Gives}
use Rattle.esync_machine.specs.Rules.{Rules, asked_rules}
use Rattle.esync_machine.specs.Wakings.{Wakings, nothing}
use Rattle.esync_cells.specs.LazyLock.{Lazy, Shows}
use Rattle.esync_cells.specs.declared.lazy_lock.machine.NoAsk.{NoAsk}
use Rattle.esync_cells.specs.declared.lazy_lock.machine.LazyCall.{LazyCall}
use Rattle.esync_cells.specs.declared.lazy_lock.machine.LazyCall.TheVariants.{Get, Into}

-- there is nothing to poll
abbrev pub Polls : {O T : Type 0} → O → NoAsk → Answer T → O → Option NoAsk → Type 0
Polls o h a o2 p = (a ≡ NoSuch) × (o2 ≡ o) × (p ≡ Some h)

module _ {T M : Type 0} (Makes : M → T → Type 0) where
  -- a value is told, and this is left of the lock
  abbrev pub Tells : Lazy T M → (T → Option (Lazy T M)) → Answer T → Option (Lazy T M) → Type 0
  Tells o left a o2 = (x : T) × Shows (Makes o.maker) o.value x × (a ≡ Gives x) × (o2 ≡ left x)

  abbrev pub Calls : Option (Lazy T M) → LazyCall → Answer T → Option (Lazy T M) → Type 0
  Calls None call a o2 = (a ≡ NoSuch) × (o2 ≡ None)
  Calls (Some o) Get a o2 = Tells o (λ x. Some (record o { value = Some x })) a o2
  Calls (Some o) Into a o2 = Tells o (λ x. None) a o2

  -- the object is the value with its maker, or nothing once the value was taken out
  abbrev pub lazy_rules : Rules NoAsk NoAsk LazyCall T
  lazy_rules = record (asked_rules Polls Calls) { begins = λ o ask p. p ≡ None; IsRequest = λ h. ⊥ }

-- no waker is ever registered, and none is handed out
abbrev pub lazy_wakings : (Core T W : Type 0) → Wakings Core NoAsk LazyCall T W
lazy_wakings Core T W = record {
  Registered = Unit {0};
  polls = λ o g h w a p. nothing g;
  ends = λ o g h. nothing g;
  calls = λ o g call p a. nothing g;
}
