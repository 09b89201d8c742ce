use Rattle.std.proofs.Common.{◌≡◌, ◌-◌, [], map, length, take, Vec, Global, vec_len, vec_capacity}
use Rattle.esync_history.proofs.replies.Replies.new.Given as goal

abbrev pub invariant-loop-acts : goal.invariant-loop-acts
invariant-loop-acts g l = record {
  replies : map (λ (v : Vec g.row.R.Denot Global). v.items) l.heard.items ≡ map (λ acts. []) (take l.acts-index l.tasks);
  room : map (λ (v : Vec g.row.R.Denot Global). vec_capacity v - vec_len v) l.heard.items ≡ map (λ acts. length acts.items) (take l.acts-index l.tasks);
}
