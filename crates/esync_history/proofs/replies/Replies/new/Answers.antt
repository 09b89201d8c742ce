use Rattle.std.proofs.Common.{◌≡◌, ◌-◌, [], map, length, add-one, ap, ◌∙◌, arith, take_all, Vec, Global, vec_len, vec_capacity}
use Rattle.esync_history.proofs.Answering.{same_answered, maps_more}
use Rattle.esync_history.proofs.replies.Replies.new.Goals as goal

pub loop-acts-preserved : goal.loop-acts-preserved
loop-acts-preserved g c =
    let heard = c.loop-acts.heard.items in
    let made = c.in_ok-with_capacity.field-0 in
    let tasks = c.args.tasks.now in
    let acts = c.acts-item.result in
    let i = c.loop-acts.acts-index in
    let spare : vec_capacity made - vec_len made ≡ length acts.items = omega (arith, c.in_ok-with_capacity.ensures.exact, c.in_ok-with_capacity.ensures.len, c.len.ensures, acts.ok.0) in
    rw add-one (record {
      replies = ap (map (λ (v : Vec g.row.R.Denot Global). v.items)) c.in_ok-push.ensures.items ∙ maps_more (λ (v : Vec g.row.R.Denot Global). v.items) (λ acts. []) heard made tasks i acts c.loop-acts-test.true c.acts-item.is c.loop-acts.invariant.replies c.in_ok-with_capacity.ensures.items;
      room = ap (map (λ (v : Vec g.row.R.Denot Global). vec_capacity v - vec_len v)) c.in_ok-push.ensures.items ∙ maps_more (λ (v : Vec g.row.R.Denot Global). vec_capacity v - vec_len v) (λ acts. length acts.items) heard made tasks i acts c.loop-acts-test.true c.acts-item.is c.loop-acts.invariant.room spare;
    })

pub returns : goal.returns
returns g c =
    let i = c.loop-acts.invariant in
    let all = take_all c.loop-acts.acts-index c.args.tasks.now c.loop-acts-test.false in
    same_answered _ _ _ _ (i.replies ∙ ap (map (λ acts. [])) all) (i.room ∙ ap (map (λ acts. length acts.items)) all)
