use Rattle.std.proofs.Common.{◌≡◌, [], ◌∷◌, length-append, arith, lit<, rules, sym}
use Rattle.std.proofs.lemmas.Grind.{common_steps}
use Rattle.esync_words.specs.Words.{parts_of}
use Rattle.esync_words.specs.WordsLaws.{parts_of_one, parts_of_more}
use Rattle.esync_words.proofs.Bytes.{number_more, number_none, number_last, number_beyond}
use Rattle.esync_words.proofs.words.read_list.Goals as goal

pub returns-in_err-read_byte : goal.returns-in_err-read_byte
returns-in_err-read_byte c =
    let one = parts_of_one 44 c.loop-rest.rest.now (c.in_default.ensures.byte (lit< tt) (λ w o f. f)) in
    rw c.from_residual.ensures (sym (number_none 8 44 c.args.word.now c.loop-rest.bytes.items c.loop-rest.rest.now c.loop-rest.invariant.read c.args.most _ _ one (sym c.in_err-read_byte.ensures)))

pub returns-in_default : goal.returns-in_default
returns-in_default c =
    let one = parts_of_one 44 c.loop-rest.rest.now (c.in_default.ensures.byte (lit< tt) (λ w o f. f)) in
    let last = number_last 8 44 c.args.word.now c.loop-rest.bytes.items c.loop-rest.rest.now c.loop-rest.invariant.read c.args.most _ one (sym c.in_ok-read_byte.ensures) (grind (arith, common_steps)) in
    rw c.push.ensures.items (sym last)

pub returns-in_err-read_byte-2 : goal.returns-in_err-read_byte-2
returns-in_err-read_byte-2 c =
    let parts = c.in-Some.ensures.byte (lit< tt) (λ w o f. f) in
    let more = parts_of_more 44 c.loop-rest.rest.now parts.2 in
    rw c.from_residual-in_err-read_byte-2.ensures (sym (number_none 8 44 c.args.word.now c.loop-rest.bytes.items c.loop-rest.rest.now c.loop-rest.invariant.read c.args.most _ _ more (rw parts.0 at (sym c.in_err-read_byte-2.ensures))))

pub loop-rest-preserved : goal.loop-rest-preserved
loop-rest-preserved c =
    let parts = c.in-Some.ensures.byte (lit< tt) (λ w o f. f) in
    let more : parts_of 44 c.loop-rest.rest.now ≡ c.in-Some.part.now ∷ parts_of 44 c.in-Some.behind.now = rw (parts.0, parts.1) (parts_of_more 44 c.loop-rest.rest.now parts.2) in
    record {
      text = search rules;
      few = rw c.push-in-loop-rest.ensures.items (let l = length-append c.loop-rest.bytes.items (c.in_ok-read_byte-2.field-0 ∷ []) in grind (arith, common_steps));
      read = rw c.push-in-loop-rest.ensures.items (number_more 8 44 c.args.word.now c.loop-rest.bytes.items c.loop-rest.rest.now c.loop-rest.invariant.read c.in-Some.part.now c.in-Some.behind.now _ more (sym c.in_ok-read_byte-2.ensures));
    }

pub returns : goal.returns
returns c = sym (number_beyond 8 44 c.args.word.now c.loop-rest.bytes.items c.loop-rest.rest.now c.loop-rest.invariant.read c.args.most (grind (arith, common_steps)))
