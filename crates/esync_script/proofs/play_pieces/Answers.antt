use Rattle.std.proofs.Common.{◌≡◌, ◌⊎◌, ℕ, List, inl, inr, subst, sym, T}
use Rattle.std.specs.Prelude.{Option, min, Result, Ok, Err, IsOk, OnOk, IfErr}
use Rattle.esync_words.specs.declared.fault.Fault.{Fault}
use Rattle.esync_words.specs.declared.fault.Fault.TheVariants.{InputOutput}
use Rattle.esync_words.specs.Played.{IsJudged}
use Rattle.esync_script.specs.Opening.{language, PlaysScript}
use Rattle.esync_script.proofs.play_pieces.Goals as goal

-- a result that says how a script ended is what became of it
judged :
    (Q : Option (List ℕ) → Option (List ℕ) → Result (Unit {0}) Fault → Type 0) (before after : Option (List ℕ)) (result outcome : Result (Unit {0}) Fault)
    → OnOk result (IsOk outcome) → IfErr result (λ fault. (outcome ≡ Err fault) ⊎ (fault ≡ InputOutput)) → Q before after outcome → IsJudged result
    → (b a : Option (List ℕ)) × Q b a result
judged Q before after (Ok _) (Ok _) ok err p j = (before, after, p)
judged Q before after (Ok _) (Err _) ok err p j = absurd (subst T (sym ok) tt)
judged Q before after (Err fault) outcome ok err p j = elim err [
  | inl e ↦ (before, after, rw (← e) p)
  | inr e ↦ absurd (rw e at j)
]

pub returns : goal.returns
returns g c j =
    judged (λ b a outcome. PlaysScript (language _ g.C.Size.sized g.C.Size.size g.C.Size.handled (min g.C.Size.bytes 4096) g.C.Size.bits g.C.LineLimit.longest g.C.RequestLimit.requests) g.T.Telling.story (g.R.Read.remaining c.args.input) b a outcome) _ _ _ _
    c.finish.ensures.ok c.finish.ensures.err c.play_read-outcome.ensures j
