-- A journal replays, and may be extended by a turn.
use Rattle.std.specs.Prelude.{◌≡◌, ℕ, List, [], ◌∷◌, ◌++◌}
use Rattle.std.proofs.Common.{sym, subst, ◌∙◌, arith}
use Rattle.std.proofs.lemmas.List.{map-append}
use Rattle.std.proofs.lemmas.List.Sums.{sum_by-append}
use Rattle.esync_base.specs.ListedLaws.{equal_number, unequal_number}
use Rattle.esync_machine.specs.Runs.{Semantics, GoodRun, IsRun, OwedAreIdle}
use Rattle.esync_machine.specs.Histories.{Turn, History}
use Rattle.esync_machine.specs.HistoriesLaws.{longer, good_run_of, good_run_by, good_run_by-steps, are_owed}
use Rattle.esync_history.specs.Journal.{CountsOne, IsKept, Replays, Owing, commands_of, replies_of}
use Rattle.esync_history.specs.declared.recorded.Entry.{Entry}

pub counts_one : {C A : Type 0} (seat : ℕ) (journal : List (Entry C A)) (e : Entry C A) → e.seat ≡ seat → CountsOne seat journal (journal ++ e ∷ [])
counts_one seat journal e is = (
  sum_by-append _ journal (e ∷ []) ∙ rw (equal_number e.seat seat is) (omega arith),
  λ k ne. sum_by-append _ journal (e ∷ []) ∙ rw (unequal_number e.seat k (λ q. ne (sym q ∙ is))) (omega arith),
)

module _ {S C A W : Type 0} (X : Semantics S C A W) where
  pub replays : OwedAreIdle X → (opening machine : S) (journal : List (Entry C A)) → IsKept X opening journal machine → Replays X (record { opening = opening; journal = journal; machine = machine })
  replays law opening machine journal k =
      let good : _ → Type 0 = λ o. GoodRun X.meaning o (X.registrations opening) (commands_of journal) (replies_of journal) (X.object machine) (X.registrations machine) in
      let from : _ → Type 0 = λ g. GoodRun X.meaning (X.object k.0) g (commands_of journal) (replies_of journal) (X.object machine) (X.registrations machine) in
      subst good k.1.0 (subst from k.1.1 (good_run_of law k.2))

  pub kept_longer : (opening old new : S) (journal : List (Entry C A)) (e : Entry C A) → IsKept X opening journal old → Turn X old e.command e.reply new → IsKept X opening (journal ++ e ∷ []) new
  kept_longer opening old new journal e k t =
      let told : _ → Type 0 = λ cs. History X k.0 cs (replies_of (journal ++ e ∷ [])) new in
      let heard : _ → Type 0 = λ as'. History X k.0 (commands_of journal ++ e.command ∷ []) as' new in
      (k.0, k.1, subst told (sym (map-append (λ x. x.command) journal (e ∷ []))) (subst heard (sym (map-append (λ x. x.reply) journal (e ∷ []))) (longer k.2 t)))

  pub owing : OwedAreIdle X → (opening machine : S) (journal : List (Entry C A)) → IsKept X opening journal machine → Owing X (record { opening = opening; journal = journal; machine = machine })
  owing law opening machine journal k =
      let steps = k.2.steps in
      let good = good_run_by X law k.0 machine steps k.2.through in
      let run = subst (λ xs. IsRun X.meaning (X.object k.0) xs (X.object machine)) (good_run_by-steps X law k.0 machine steps k.2.through) good.run in
      (steps, k.2.answers, subst (λ o. IsRun X.meaning o steps (X.object machine)) k.1.0 run, are_owed X k.0 machine steps k.2.through)
