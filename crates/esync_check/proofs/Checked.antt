-- What follows of a text from the replies that it records and those that were given.
use Rattle.std.proofs.Common.{◌≡◌, ℕ, Bool, List, [], subst}
use Rattle.std.specs.Prelude.{Option, Some, Result, Ok, Err, IfOk}
use Rattle.esync_words.specs.declared.fault.Fault.{Fault}
use Rattle.esync_words.specs.Story.{replies_story}
use Rattle.esync_script.specs.Opening.{runs, PlaysScript}
use Rattle.esync_check.specs.declared.Verdict.{Verdict}
use Rattle.esync_check.specs.declared.Verdict.TheVariants.{Run, Another}
use Rattle.esync_check.specs.Recorded.{Records, TakesApart}
use Rattle.esync_check.specs.Checked.{Replies, Judges, Finds}

-- the texts that three rooms have, of which the first two are what a text was taken apart into
module _ (text script recorded given : List ℕ) (script_room replies_room given_room : Option (List ℕ)) (count : ℕ) (is_whole : Bool) (outcome : Result (Unit {0}) Fault) (script_is : script_room ≡ Some script) (replies_are : replies_room ≡ Some recorded) (given_is : given_room ≡ Some given) (apart : TakesApart text script_room replies_room count is_whole) (plays : PlaysScript runs replies_story (Some script) (Some []) given_room outcome) where
  records : Records text script recorded count apart.rest
  records = (let s : apart.script ≡ script = cc (apart.script_is, script_is) in let r : apart.replies ≡ recorded = cc (apart.replies_are, replies_are) in rw (s, r) at apart.records)

  played : Replies script given outcome
  played = subst (λ room. PlaysScript runs replies_story (Some script) (Some []) room outcome) given_is plays

  found : (v : Verdict) → Judges count is_whole recorded given outcome v → Finds text v
  found (Run n) j = record {
    script = script;
    replies = recorded;
    records = rw (j.0, ← apart.whole j.1) records;
    played = subst (λ g. Replies script g (Ok tt)) j.3 (subst (λ o. Replies script given o) j.2 played);
  }
  found (Another d) j = record {
    script = script;
    recorded = recorded;
    commands = count;
    rest = apart.rest;
    records = records;
    given = given;
    outcome = outcome;
    played = played;
    judged = j.0;
    differs = j.1;
  }

  -- what is found of the replies is found of the text
  pub finds : {E : Type 0} (r : Result Verdict E) → IfOk r (λ v. Judges count is_whole recorded given outcome v) → IfOk r (λ v. Finds text v)
  finds (Ok v) h = found v h
  finds (Err e) h = tt
