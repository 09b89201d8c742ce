-- Laws of lines and of recorded runs.
use Rattle.std.proofs.Common.{◌≡◌, ℕ, suc, ◌+◌, ◌<◌, ◌⊎◌, inl, inr, Bool, true, false, List, [], ◌∷◌, ◌++◌, Option, Some, None, length, take, drop, refl, ap, sym, ◌∙◌, arith, append_assoc, append-nil, length-append}
use Rattle.std.specs.Prelude.{◌==◌, ◌-◌, ◌^◌, min, not, nat_lt, cond, Result, Ok, Err, IfOk, OnOk}
use Rattle.std.specs.Str.{bytes_eq}
use Rattle.std.proofs.lemmas.Bool.{ltb-true, ltb-false}
use Rattle.std.proofs.lemmas.List.Sums.{prefix_len-le-length}
use Rattle.std.proofs.lemmas.Slice.Eq.{bytes_eq-Decides}
use Rattle.std.specs.Io.KnownBytes.{Appends}
use Rattle.std.specs.List.{before_first, after_first, position_or_len}
use Rattle.esync_words.specs.Lines.{first_line, other_lines}
use Rattle.esync_words.specs.Played.{Reads}
use Rattle.esync_check.specs.declared.recording.Recording.{Recording}
use Rattle.esync_check.specs.Recorded.{Entry, entry_line, entry_lines, commands_text, replies_text, line_text, TakesApart, AddsEntries}

true_or_false : (b : Bool) → (b ≡ true) ⊎ (b ≡ false)
true_or_false true = inl refl
true_or_false false = inr refl

take_next : (n c : ℕ) (cs : List ℕ) → take (1 + n) (c ∷ cs) ≡ c ∷ take n cs
take_next n c cs = (let e : 1 + n ≡ suc n = omega arith in rw e refl)

drop_next : (n c : ℕ) (cs : List ℕ) → drop (1 + n + 1) (c ∷ cs) ≡ drop (n + 1) cs
drop_next n c cs = (let e : 1 + n + 1 ≡ suc (n + 1) = omega arith in rw e refl)

-- a text without a line feed is one line
pub one_line : (t : List ℕ) → position_or_len (λ b. b == 10) t ≡ length t → (first_line t ≡ t) × (other_lines t ≡ [])
one_line [] h = (refl, refl)
one_line (c ∷ cs) h = elim (true_or_false (c == 10)) [
  | inl e ↦ (let k = rw e at h in absurd (omega arith))
  | inr e ↦ (let k = rw e at h in let r = one_line cs (omega (arith, k)) in rw e (ap (λ xs. c ∷ xs) r.0, r.1))
]

-- another one is a line, and what stands behind its line feed
pub more_lines : (t : List ℕ) → position_or_len (λ b. b == 10) t < length t → (first_line t ≡ before_first (λ b. b == 10) t) × (other_lines t ≡ after_first (λ b. b == 10) t)
more_lines [] h = absurd (omega arith)
more_lines (c ∷ cs) h = elim (true_or_false (c == 10)) [
  | inl e ↦ rw e (refl, refl)
  | inr e ↦ (let k = rw e at h in let r = more_lines cs (omega (arith, k)) in rw (e, take_next (position_or_len (λ b. b == 10) cs) c cs, drop_next (position_or_len (λ b. b == 10) cs) c cs) (ap (λ xs. c ∷ xs) r.0, r.1))
]

-- a line feed was looked for, and the first stands there
pub feed_found : (t : List ℕ) (found : Option ℕ) (end : ℕ) → found ≡ cond (nat_lt (position_or_len (λ b. b == 10) t) (length t)) (Some (position_or_len (λ b. b == 10) t)) None → found ≡ Some end → (first_line t ≡ take end t) × (other_lines t ≡ drop (end + 1) t)
feed_found t found end h e = elim (true_or_false (nat_lt (position_or_len (λ b. b == 10) t) (length t))) [
  | inl y ↦ (let k = rw y at h in let at : position_or_len (λ b. b == 10) t ≡ end = cc in let r = more_lines t (ltb-true _ _ y) in (r.0 ∙ ap (λ n. take n t) at, r.1 ∙ ap (λ n. drop (n + 1) t) at))
  | inr n ↦ (let k = rw n at h in absurd cc)
]

-- there is none
pub no_feed_found : (t : List ℕ) (found : Option ℕ) → found ≡ cond (nat_lt (position_or_len (λ b. b == 10) t) (length t)) (Some (position_or_len (λ b. b == 10) t)) None → found ≡ None → (first_line t ≡ t) × (other_lines t ≡ [])
no_feed_found t found h e = elim (true_or_false (nat_lt (position_or_len (λ b. b == 10) t) (length t))) [
  | inl y ↦ (let k = rw y at h in absurd cc)
  | inr n ↦ one_line t (omega (arith, ltb-false _ _ n, prefix_len-le-length (λ b. not (b == 10)) t))
]

-- a line is at least its line feed
pub shorter : (t : List ℕ) → (t ≡ [] → ⊥) → length (other_lines t) < length t
shorter [] n = absurd (n refl)
shorter (c ∷ []) n = elim (true_or_false (c == 10)) [
  | inl e ↦ rw e (omega arith)
  | inr e ↦ rw e (omega arith)
]
shorter (c ∷ (d ∷ cs)) n = elim (true_or_false (c == 10)) [
  | inl e ↦ rw e (omega arith)
  | inr e ↦ (let r = shorter (d ∷ cs) (λ z. absurd cc) in rw e (omega (arith, r)))
]

pub reads_more : (text : List ℕ) (ls : List (List ℕ)) (mid : List ℕ) → Reads text ls mid → (mid ≡ [] → ⊥) → Reads text (ls ++ first_line mid ∷ []) (other_lines mid)
reads_more text [] mid h n = (λ e. n (h ∙ e), ap first_line h, ap other_lines h)
reads_more text (l ∷ ls) mid h n = (h.0, h.1, reads_more (other_lines text) ls mid h.2 n)

pub entry_lines-more : (es : List Entry) (e : Entry) → entry_lines (es ++ e ∷ []) ≡ entry_lines es ++ entry_line e ∷ []
entry_lines-more [] e = refl
entry_lines-more (x ∷ es) e = ap (λ ls. entry_line x ∷ ls) (entry_lines-more es e)

pub commands_text-more : (es : List Entry) (e : Entry) → commands_text (es ++ e ∷ []) ≡ commands_text es ++ line_text e.command
commands_text-more [] e = append-nil (line_text e.command)
commands_text-more (x ∷ es) e = ap (λ xs. line_text x.command ++ xs) (commands_text-more es e) ∙ sym (append_assoc (line_text x.command) (commands_text es) (line_text e.command))

pub replies_text-more : (es : List Entry) (e : Entry) → replies_text (es ++ e ∷ []) ≡ replies_text es ++ line_text e.reply
replies_text-more [] e = append-nil (line_text e.reply)
replies_text-more (x ∷ es) e = ap (λ xs. line_text x.reply ++ xs) (replies_text-more es e) ∙ sym (append_assoc (line_text x.reply) (replies_text es) (line_text e.reply))

-- a text that isn't empty
pub not_empty : (xs : List ℕ) → (length xs == 0) ≡ false → xs ≡ [] → ⊥
not_empty [] h e = absurd cc
not_empty (x ∷ xs) h e = absurd cc

-- another entry is read
pub entry_read : (text : List ℕ) (es : List Entry) (mid rest : List ℕ) (e : Entry) → Reads text (entry_lines es) mid → (mid ≡ [] → ⊥) → entry_line e ≡ first_line mid → rest ≡ other_lines mid → Reads text (entry_lines (es ++ e ∷ [])) rest
entry_read text es mid rest e r n l o = rw (o, entry_lines-more es e, l) (reads_more text (entry_lines es) mid r n)

-- another line is read
pub line_read : (text : List ℕ) (ls : List (List ℕ)) (mid line rest : List ℕ) → Reads text ls mid → (mid ≡ [] → ⊥) → line ≡ first_line mid → rest ≡ other_lines mid → Reads text (ls ++ line ∷ []) rest
line_read text ls mid line rest r n l o = rw (o, l) (reads_more text ls mid r n)

-- two texts are appended, one after another
pub appends_both : (old mid new : Option (List ℕ)) (xs ys : List ℕ) → Appends old mid xs → Appends mid new ys → Appends old new (xs ++ ys)
appends_both None mid new xs ys p q = tt
appends_both (Some o) None new xs ys p q = absurd p
appends_both (Some o) (Some m) None xs ys p q = absurd q
appends_both (Some o) (Some m) (Some n) xs ys p q = q ∙ ap (λ zs. zs ++ ys) p ∙ append_assoc o xs ys

-- a text is appended to one that is known
pub appended : (old new : Option (List ℕ)) (xs ys : List ℕ) → old ≡ Some xs → Appends old new ys → new ≡ Some (xs ++ ys)
appended None new xs ys e h = absurd cc
appended (Some o) None xs ys e h = absurd h
appended (Some o) (Some n) xs ys e h = (let same : o ≡ xs = cc in ap (λ zs. Some zs) (h ∙ ap (λ zs. zs ++ ys) same))

pub commands_read : (es : List Entry) (e : Entry) (before mid after : Option (List ℕ)) → Appends before mid (commands_text es) → Appends mid after (line_text e.command) → Appends before after (commands_text (es ++ e ∷ []))
commands_read es e before mid after m a = rw (commands_text-more es e) (appends_both before mid after _ _ m a)

pub replies_read : (es : List Entry) (e : Entry) (before mid after : Option (List ℕ)) → Appends before mid (replies_text es) → Appends mid after (line_text e.reply) → Appends before after (replies_text (es ++ e ∷ []))
replies_read es e before mid after m a = rw (replies_text-more es e) (appends_both before mid after _ _ m a)

-- two texts that a test found to differ
pub differ : (xs ys : List ℕ) (r : Bool) → r ≡ not (bytes_eq xs ys) → r ≡ true → xs ≡ ys → ⊥
differ xs ys r h t e = (let s = (bytes_eq-Decides xs ys).1 e in let k = rw s at h in absurd cc)

-- the number of the next line
pub next_line : (ls : List (List ℕ)) (l : List ℕ) (n m : ℕ) → n ≡ min (length ls + 2) (2 ^ 64 - 1) → m ≡ min (n + 1) (2 ^ 64 - 1) → m ≡ min (length (ls ++ l ∷ []) + 2) (2 ^ 64 - 1)
next_line ls l n m h e = (let k = length-append ls (l ∷ []) in rw k (omega (arith, h, e)))

not_false : (b : Bool) → not b ≡ false → b ≡ true
not_false true h = refl
not_false false h = absurd cc

-- two texts that a test found to be the same
pub alike : (xs ys : List ℕ) (r : Bool) → r ≡ not (bytes_eq xs ys) → r ≡ false → xs ≡ ys
alike xs ys r h t = (bytes_eq-Decides xs ys).0 (not_false (bytes_eq xs ys) (sym h ∙ t))

-- the number of entries with another one
pub counted_read : (es : List Entry) (e : Entry) (n m : ℕ) → n ≡ min (length es) (2 ^ 64 - 1) → m ≡ min (n + 1) (2 ^ 64 - 1) → m ≡ min (length (es ++ e ∷ [])) (2 ^ 64 - 1)
counted_read es e n m h k = (let l = length-append es (e ∷ []) in rw l (omega (arith, h, k)))

-- another entry is read, and its command and its reply are appended
pub entry_added : (lines mid behind : List ℕ) (script script2 script3 replies replies2 replies3 : Option (List ℕ)) (n m : ℕ) (e : Entry) → AddsEntries lines script script2 replies replies2 n mid → (mid ≡ [] → ⊥) → entry_line e ≡ first_line mid → behind ≡ other_lines mid → Appends script2 script3 (line_text e.command) → Appends replies2 replies3 (line_text e.reply) → m ≡ min (n + 1) (2 ^ 64 - 1) → AddsEntries lines script script3 replies replies3 m behind
entry_added lines mid behind script script2 script3 replies replies2 replies3 n m e was more line rest command reply count = record {
  entries = was.entries ++ e ∷ [];
  read = entry_read lines was.entries mid behind e was.read more line rest;
  script_is = commands_read was.entries e script script2 script3 was.script_is command;
  replies_are = replies_read was.entries e replies replies2 replies3 was.replies_are reply;
  counted = counted_read was.entries e n m was.counted count;
}

-- a text is its first line and entries
pub taken_apart : (text first lines rest : List ℕ) (cleared opened script cleared2 replies : Option (List ℕ)) (count : ℕ) (is_whole : Bool) → (text ≡ [] → ⊥) → first ≡ first_line text → lines ≡ other_lines text → cleared ≡ Some [] → cleared2 ≡ Some [] → Appends cleared opened (line_text first) → AddsEntries lines opened script cleared2 replies count rest → (is_whole ≡ true → rest ≡ []) → TakesApart text script replies count is_whole
taken_apart text first lines rest cleared opened script cleared2 replies count is_whole more line others empty empty2 wrote added whole = record {
  script = line_text first ++ commands_text added.entries;
  replies = replies_text added.entries;
  rest = rest;
  script_is = appended opened script _ _ (appended cleared opened _ _ empty wrote) added.script_is;
  replies_are = appended cleared2 replies _ _ empty2 added.replies_are;
  records = record {
    first = first;
    entries = added.entries;
    read = (more, line, rw others at added.read);
    script_is = refl;
    replies_are = refl;
    counted = added.counted;
  };
  whole = whole;
}

-- what is read behind the first line is taken apart with it
pub read_apart : {E : Type 0} (text first lines : List ℕ) (cleared opened script cleared2 replies : Option (List ℕ)) (r : Result Recording E) → (text ≡ [] → ⊥) → first ≡ first_line text → lines ≡ other_lines text → cleared ≡ Some [] → cleared2 ≡ Some [] → Appends cleared opened (line_text first) → IfOk r (λ it. (rest : List ℕ) × AddsEntries lines opened script cleared2 replies it.commands rest × (it.is_whole ≡ true → rest ≡ [])) → IfOk r (λ it. TakesApart text script replies it.commands it.is_whole)
read_apart text first lines cleared opened script cleared2 replies (Ok it) more line others empty empty2 wrote h = taken_apart text first lines h.0 cleared opened script cleared2 replies it.commands it.is_whole more line others empty empty2 wrote h.1 h.2
read_apart text first lines cleared opened script cleared2 replies (Err e) more line others empty empty2 wrote h = tt

-- a text is printed, and then another one
pub printed_both : {A E : Type 0} (old mid new : Option (List ℕ)) (xs ys : List ℕ) (r : Result A E) → Appends old mid xs → OnOk r (Appends mid new ys) → OnOk r (Appends old new (xs ++ ys))
printed_both old mid new xs ys (Ok x) p q = appends_both old mid new xs ys p q
printed_both old mid new xs ys (Err e) p q = tt
