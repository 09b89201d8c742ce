use Rattle.std.proofs.Common.{◌∙◌, ap, lit<, sym}
use Rattle.esync_words.specs.WordsLaws.{parts_of_one, parts_of_more}
use Rattle.esync_words.specs.WordsView.{words_left}
use Rattle.esync_words.proofs.words.Words.word.Goals as goal

pub returns-in-Some : goal.returns-in-Some
returns-in-Some c =
    let parts = c.in-Some.ensures.byte (lit< tt) (λ w o f. f) in
    sym c.self.view_is ∙ ap words_left c.in_ok-rest.was ∙ rw (parts.0, parts.1) (parts_of_more 32 c.in_ok-rest.rest.now parts.2)

pub returns-in-None : goal.returns-in-None
returns-in-None c =
    sym c.self.view_is ∙ ap words_left c.in_ok-rest.was ∙ parts_of_one 32 c.in_ok-rest.rest.now (c.in-None.ensures.byte (lit< tt) (λ w o f. f))
