-- What a script needs of a primitive, and what is played of the script.
use Rattle.std.specs.Prelude.{◌≡◌, ℕ, List, Option, None, Result}
use Rattle.std.proofs.Common.{nat_eq}
use Rattle.std.proofs.Math.ListN.{replicate}
use Rattle.esync_machine.specs.declared.primitive.Answer.{Answer}
use Rattle.esync_machine.specs.declared.primitive.Command.{Command}
use Rattle.esync_machine.specs.declared.run.Reply.{Reply}
use Rattle.esync_machine.specs.Runs.{Meaning}
use Rattle.esync_machine.specs.Rules.{Rules}
use Rattle.esync_machine.specs.Wakings.{Wakings}
use Rattle.esync_machine.specs.Object.{Object, requests_meaning}
use Rattle.esync_words.specs.declared.fault.Fault.{Fault}
use Rattle.esync_words.specs.Commands.{says, command}

-- A primitive as line 1 names it.
pub record Setting : Type 1 where
  pub Ask : Type 0
  pub Held : Type 0
  pub Call : Type 0
  pub Heard : Type 0
  pub rules : Rules Ask Held Call Heard
  pub wakings : Wakings rules.Core Held Call Heard ℕ
  -- how many wakers a reply has room for, which are enough for each step
  pub most : ℕ
  -- the ask and the call that a name and the words behind it say, and the text of an answer
  pub asks : List ℕ → List (List ℕ) → Option Ask
  pub calls : List ℕ → List (List ℕ) → Option Call
  pub text : Heard → List ℕ
  -- the primitive's object at first, and the wakers that are registered then
  pub core : rules.Core
  pub registered : wakings.Registered

abbrev pub setting_of : {Ask Held C A : Type 0} (most : ℕ) (R : Rules Ask Held C A) (T : Wakings R.Core Held C A ℕ) → (List ℕ → List (List ℕ) → Option Ask) → (List ℕ → List (List ℕ) → Option C) → (A → List ℕ) → R.Core → T.Registered → Setting
setting_of {Ask = Ask} {Held = Held} {C = C} {A = A} most R T asks calls text core registered = record {
  Ask = Ask;
  Held = Held;
  Call = C;
  Heard = A;
  rules = R;
  wakings = T;
  most = most;
  asks = asks;
  calls = calls;
  text = text;
  core = core;
  registered = registered;
}

-- an object with so many numbers, all of which are free
abbrev pub new_object : {Core Held : Type 0} → ℕ → Core → Object Core Held
new_object numbers core = record { core = core; requests = replicate numbers None }

-- the object has so many numbers and no requests, and its core and registrations are those at first
abbrev pub BeginsAs : ℕ → (s : Setting) → Object s.rules.Core s.Held → s.wakings.Registered → Type 0
BeginsAs numbers s object registered = (object ≡ new_object numbers s.core) × (registered ≡ s.registered)

-- the numbers of a script are cloned as they are, and no clone of one needs memory
abbrev pub IsSame : ℕ → ℕ → Type 0
IsSame v w = w ≡ v

abbrev pub NeedsNone : ℕ → Type 0
NeedsNone v = Unit {0}

-- The statement `plays` on the lines behind line n, each of at most `longest` bytes, and on the primitive's machine,
-- which begins with so many numbers and without requests.
module _ (plays : (Q C A Reply : Type 0) (M : Meaning (Command Q ℕ C) Reply ℕ) → (List ℕ → Option (Command Q ℕ C)) → (A → List ℕ) → (Reply → Answer A) → (Reply → List ℕ) → M.Object → M.Registered → ℕ → Option (List ℕ) → Option (List ℕ) → Option (List ℕ) → Result (Unit {0}) Fault → Type 0) where
  abbrev pub PlaysFrom : ℕ → ℕ → Setting → ℕ → Option (List ℕ) → Option (List ℕ) → Option (List ℕ) → Result (Unit {0}) Fault → Type 0
  PlaysFrom longest numbers s n left before after outcome =
      plays s.Ask s.Call s.Heard (Reply (Answer s.Heard) ℕ s.most) (requests_meaning s.rules s.wakings nat_eq s.most) (says longest (command s.asks s.calls)) s.text (λ a. a.answer) (λ a. a.wakes) (new_object numbers s.core) s.registered n left before after outcome
