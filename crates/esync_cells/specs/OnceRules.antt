-- What a once lock allows for each request and each call, and which wakers it hands out.
use Rattle.std.specs.Prelude.{◌≡◌, Option, Some, None, is_some, unwrap_or}
use Rattle.esync_machine.specs.declared.primitive.Answer.{Answer}
use Rattle.esync_machine.specs.declared.primitive.Answer.TheVariants.{Pending, Gives}
use Rattle.esync_machine.specs.Rules.{Rules, asked_rules}
use Rattle.esync_machine.specs.Wakings.{Wakings, nothing}
use Rattle.esync_cells.specs.OnceLock.{wakes_of_get, set_answer}
use Rattle.esync_cells.specs.declared.once_lock.machine.Get.{Get}
use Rattle.esync_cells.specs.declared.once_lock.machine.OnceCall.{OnceCall}
use Rattle.esync_cells.specs.declared.once_lock.machine.OnceCall.TheVariants.{TryGet, Init, GetOrInit, Take, IsSet}
use Rattle.esync_cells.specs.declared.once_lock.machine.OnceHeard.{OnceHeard}
use Rattle.esync_cells.specs.declared.once_lock.machine.OnceHeard.TheVariants.{Got, Found, HasSet, Shown, IsSet as WasSet}

abbrev pub Polls : {T : Type 0} → Option T → Get → Answer (OnceHeard T) → Option T → Option Get → Type 0
Polls None h a o2 p = (a ≡ Pending) × (o2 ≡ None) × (p ≡ Some h)
Polls (Some x) h a o2 p = (a ≡ Gives (Got x)) × (o2 ≡ Some x) × (p ≡ None)

abbrev pub Calls : {T : Type 0} → Option T → OnceCall T → Answer (OnceHeard T) → Option T → Type 0
Calls o TryGet a o2 = (a ≡ Gives (Found o)) × (o2 ≡ o)
Calls o (Init x) a o2 = (a ≡ Gives (HasSet (set_answer o x))) × (o2 ≡ Some (unwrap_or o x))
Calls o (GetOrInit x) a o2 = (a ≡ Gives (Shown (unwrap_or o x))) × (o2 ≡ Some (unwrap_or o x))
Calls o Take a o2 = (a ≡ Gives (Found o)) × (o2 ≡ None)
Calls o IsSet a o2 = (a ≡ Gives (WasSet (is_some o))) × (o2 ≡ o)

-- the object is an optional value; a poll that finds none wakes itself
abbrev pub once_rules : (T : Type 0) → Rules Get Get (OnceCall T) (OnceHeard T)
once_rules T = record (asked_rules Polls Calls) { WakesItself = Unit {0} }

-- no waker is ever registered
abbrev pub once_wakings : (T W : Type 0) → Wakings (Option T) Get (OnceCall T) (OnceHeard T) W
once_wakings T W = record {
  Registered = Unit {0};
  polls = λ o g h w a p. record { wakes = wakes_of_get o w; after = g };
  ends = λ o g h. nothing g;
  calls = λ o g call p a. nothing g;
}
