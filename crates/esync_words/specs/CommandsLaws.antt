-- Laws of commands.
use Rattle.std.proofs.Common.{◌≡◌, ℕ, List, Option, refl}
use Rattle.std.specs.Prelude.{codes}
use Rattle.std.specs.Option.{option_map}
use Rattle.esync_machine.specs.declared.primitive.Command.TheVariants.{Call}
use Rattle.esync_words.specs.Commands.{command}
use Rattle.esync_words.specs.WordsLaws.{not_text}

-- a name that is none of the three is that of a call
pub command_other : {Ask Calls : Type 0} (asks : List ℕ → List (List ℕ) → Option Ask) (calls : List ℕ → List (List ℕ) → Option Calls) (name : List ℕ) (words : List (List ℕ)) → (name ≡ codes "start" → ⊥) → (name ≡ codes "poll" → ⊥) → (name ≡ codes "end" → ⊥) → command asks calls name words ≡ option_map (λ call. Call call) (calls name words)
command_other asks calls name words s p e = rw (not_text name (codes "start") s, not_text name (codes "poll") p, not_text name (codes "end") e) refl
