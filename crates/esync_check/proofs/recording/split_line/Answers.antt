use Rattle.std.proofs.Common.{ℕ, ◌+◌, length, ◌∙◌, sym, rules, arith}
use Rattle.std.specs.Prelude.{◌==◌}
use Rattle.std.proofs.lemmas.Slice.{between_to_end}
use Rattle.std.proofs.lemmas.Iterator.{YieldsList-from_slice}
use Rattle.std.proofs.lemmas.Iterator.Search.{position_from_yields_List}
use Rattle.esync_check.proofs.Recorded.{feed_found, no_feed_found}
use Rattle.esync_check.proofs.recording.split_line.Goals as goal

pub returns-in-Some : goal.returns-in-Some
returns-in-Some c =
    let found = position_from_yields_List (λ (b : ℕ). b == 10) _ _ c.position.result c.position.ensures.ran (YieldsList-from_slice c.args.text.now cc) (λ x b q k. search rules) in
    let parts = feed_found c.args.text.now c.position.result c.in-Some.end found c.in-Some.is in record {
      line = sym parts.0;
      rest = between_to_end c.args.text.now (c.in-Some.end + 1) (length c.args.text.now) (omega arith) ∙ sym parts.1;
    }

pub returns-in-None : goal.returns-in-None
returns-in-None c =
    let found = position_from_yields_List (λ (b : ℕ). b == 10) _ _ c.position.result c.position.ensures.ran (YieldsList-from_slice c.args.text.now cc) (λ x b q k. search rules) in
    let parts = no_feed_found c.args.text.now c.position.result found c.in-None.is in record {
      line = sym parts.0;
      rest = sym parts.1;
    }
