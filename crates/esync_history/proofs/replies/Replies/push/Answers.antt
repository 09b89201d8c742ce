use Rattle.std.proofs.Common.{◌≡◌, ◌-◌, ◌<◌, ◌∷◌, ◌++◌, [], map, length, sym, ap, subst, ◌∙◌, arith, true, Vec, Global, vec_len, vec_capacity}
use Rattle.std.specs.Prelude.{slice_set, slice_index}
use Rattle.std.proofs.lemmas.List.{map-set, length-map}
use Rattle.esync_history.specs.Answered.{Answered, noted}
use Rattle.esync_history.proofs.Answering.{same_answered, read_mapped, room_there}
use Rattle.esync_history.proofs.replies.Replies.push.Goals as goal

pub returns : goal.returns
returns g c =
    let all = c.self.inside.heard.items in
    let k = c.args.task in
    let old = c.index_mut.result.now in
    let new = c.push_reserved.new.self in
    let items = λ (v : Vec g.row.R.Denot Global). v.items in
    let spare = λ (v : Vec g.row.R.Denot Global). vec_capacity v - vec_len v in
    let there : k < length all = omega (arith, room_there (map spare all) k (subst (λ (a : Answered g.row.R.Denot). 0 < slice_index a.room k) (sym c.self.view_is) c.requires), length-map all spare) in
    let less : spare new ≡ spare old - 1 = omega (arith, c.push_reserved.ensures.len, c.push_reserved.ensures.capacity) in
    subst (λ (a : Answered g.row.R.Denot). record { replies = map items (slice_set all k new); room = map spare (slice_set all k new) } ≡ record { replies = noted a.replies k true c.args.reply; room = slice_set a.room k (slice_index a.room k - 1) }) c.self.view_is (same_answered _ _ _ _
    (map-set items all k new ∙ ap (λ xs. slice_set (map items all) k xs) (c.push_reserved.ensures.items ∙ ap (λ xs. xs ++ c.args.reply ∷ []) (sym (read_mapped items all k old [] there c.index_mut.ensures.value))))
    (map-set spare all k new ∙ ap (λ n. slice_set (map spare all) k n) (less ∙ ap (λ n. n - 1) (sym (read_mapped spare all k old 0 there c.index_mut.ensures.value)))))
