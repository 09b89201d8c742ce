-- What a script has said so far.
use Rattle.std.proofs.Common.{◌≡◌, ℕ, ◌<◌, ◌≤◌, ◌⊎◌, inl, inr, Bool, true, false, List, [], ◌∷◌, ◌++◌, length, Option, Some, None, refl, ap, sym, ◌∙◌, subst, arith, append_assoc, append-nil, nat_lt}
use Rattle.std.specs.Prelude.{Result, Ok, Err, IsErr, IfSome}
use Rattle.std.specs.Result.{IsErrAnd}
use Rattle.std.specs.Str.{IsUtf8, is_utf8}
use Rattle.std.proofs.lemmas.Str.{IsUtf8-from_is_utf8, is_utf8-from_IsUtf8}
use Rattle.std.proofs.lemmas.Bool.Decides.{nat_tests}
use Rattle.std.proofs.lemmas.List.{length-map}
use Rattle.std.specs.Io.KnownBytes.{Appends, Keeps}
use Rattle.esync_machine.specs.Runs.{Meaning, Semantics, OwedAreIdle}
use Rattle.esync_machine.specs.Histories.{History, Turn}
use Rattle.esync_machine.specs.HistoriesLaws.{no_history, longer, good_run_of}
use Rattle.esync_words.specs.declared.fault.Fault.{Fault}
use Rattle.esync_words.specs.declared.fault.Fault.TheVariants.{NotACommand, InputOutput, OutOfMemory}
use Rattle.esync_words.specs.Lines.{Source, IsRead, first_line, other_lines}
use Rattle.esync_words.specs.Story.{Transcript}
use Rattle.esync_words.specs.Words.{words_of}
use Rattle.esync_words.specs.Commands.{says, named}
use Rattle.esync_words.specs.Played.{IsJudged, Reads, AreSaid, noted, told, Ends, Played, line_number, next_number}
use Rattle.esync_words.proofs.Known.{appends_nothing, appends_kept, appends_more}

true_or_false : (b : Bool) → (b ≡ true) ⊎ (b ≡ false)
true_or_false true = inl refl
true_or_false false = inr refl

line_number-more : (n : ℕ) (ls : List (List ℕ)) (l : List ℕ) → line_number n (ls ++ l ∷ []) ≡ next_number (line_number n ls)
line_number-more n [] l = refl
line_number-more n (x ∷ ls) l = line_number-more (next_number n) ls l

reads_more : (text : List ℕ) (ls : List (List ℕ)) (mid : List ℕ) → Reads text ls mid → (mid ≡ [] → ⊥) → Reads text (ls ++ first_line mid ∷ []) (other_lines mid)
reads_more text [] mid h n = (λ e. n (h ∙ e), ap first_line h, ap other_lines h)
reads_more text (l ∷ ls) mid h n = (h.0, h.1, reads_more (other_lines text) ls mid h.2 n)

-- a line that was read whole
pub read_whole : (most : ℕ) (text : List ℕ) (s : Source) → IsRead most text true s → length s.line ≤ most → (s.line ≡ first_line text) × (s.left ≡ Some (other_lines text))
read_whole most text s h l = elim (true_or_false (nat_lt most (length (first_line text)))) [
  | inl e ↦ absurd (let m : most < length s.line = h.2 (grind (arith, nat_tests)) in omega arith)
  | inr e ↦ h.1 (grind (arith, nat_tests))
]

-- a text says what its words say
pub says_words : {C : Type 0} (most : ℕ) (said : List ℕ → List (List ℕ) → Option C) (line : List ℕ) → IsUtf8 line → length line ≤ most → says most said line ≡ named said (words_of line)
says_words most said line u l = (let e : nat_lt most (length line) ≡ false = grind (arith, nat_tests) in rw (e, is_utf8-from_IsUtf8 line u) refl)

-- what isn't readable says nothing
pub says_nothing : {C : Type 0} (most : ℕ) (said : List ℕ → List (List ℕ) → Option C) (text : List ℕ) (s : Source) → IsRead most text true s → (IsUtf8 s.line → most < length s.line) → says most said (first_line text) ≡ None
says_nothing most said text s h n = elim (true_or_false (nat_lt most (length (first_line text)))) [
  | inl e ↦ rw e refl
  | inr e ↦ (let w = h.1 (grind (arith, nat_tests)) in elim (true_or_false (is_utf8 (first_line text))) [
    | inl u ↦ absurd (let m : most < length s.line = n (IsUtf8-from_is_utf8 s.line (rw w.0 u)) in let k = ap length w.0 in grind (arith, nat_tests))
    | inr u ↦ rw (e, u) refl
  ])
]

same_length : {S C A W : Type 0} {X : Semantics S C A W} {old new : S} {cs : List C} {as' : List A} → History X old cs as' new → length cs ≡ length as'
same_length h = ap length h.answers.0 ∙ length-map h.steps (λ s. s.command) ∙ sym (ap length h.answers.1 ∙ length-map h.steps (λ s. s.reply))

-- behind a fault that isn't told of a line, nothing is said of what is left
pub ends_unjudged : {C A W : Type 0} (M : Meaning C A W) (command : List ℕ → Option C) (T : Transcript C A) (n : ℕ) (rest : List ℕ) (fault : Fault) → (IsJudged (Err fault) → ⊥) → Ends M command T n rest (Err fault)
ends_unjudged M command T n rest (NotACommand k) h = absurd (h tt)
ends_unjudged M command T n rest InputOutput h = tt
ends_unjudged M command T n rest OutOfMemory h = tt

-- What is left of a script is this, and a line was read of it, or none.
module _ (most : ℕ) (s : Source) where
  pub at_end : (left : Option (List ℕ)) (b : Bool) → IfSome left (λ text. IsRead most text b s) → b ≡ false → (r : List ℕ) → left ≡ Some r → r ≡ []
  at_end left true h n r e = absurd cc
  at_end left false h n r e = subst (λ o. IfSome o (λ text. IsRead most text false s)) e h

  is_there : (left : Option (List ℕ)) (b : Bool) → IfSome left (λ text. IsRead most text b s) → b ≡ true → IfSome left (λ text. IsRead most text true s)
  is_there left true h n = h
  is_there left false h n = absurd cc

  read_of : (left : Option (List ℕ)) (b : Bool) → IfSome left (λ text. IsRead most text b s) → b ≡ true → (r : List ℕ) → left ≡ Some r → IsRead most r true s
  read_of left b h n r e = subst (λ o. IfSome o (λ text. IsRead most text true s)) e (is_there left b h n)

module _ {S C A W : Type 0} (X : Semantics S C A W) (command : List ℕ → Option C) (T : Transcript C A) where
  -- the commands so far, and what was written
  pub record SoFar (was is : T.Notes) (old now : S) (n : ℕ) (left : Option (List ℕ)) (number : ℕ) (rest : Option (List ℕ)) (before after : Option (List ℕ)) : Type 0 where
    pub lines : List (List ℕ)
    pub commands : List C
    pub replies : List A
    pub said : AreSaid X.meaning command T lines commands
    pub history : History X old commands replies now
    pub read : IfSome left (λ text. (r : List ℕ) × (rest ≡ Some r) × Reads text lines r)
    pub numbered : number ≡ line_number n lines
    pub printed : Appends before after (told X.meaning command T was n lines commands replies)
    pub remembered : is ≡ noted X.meaning command T was commands replies

  read_none : (left : Option (List ℕ)) → IfSome left (λ text. (r : List ℕ) × (left ≡ Some r) × Reads text [] r)
  read_none None = tt
  read_none (Some text) = (text, refl, refl)

  said_more : (ls : List (List ℕ)) (cs : List C) (l : List ℕ) (c : C) → AreSaid X.meaning command T ls cs → command l ≡ Some c → AreSaid X.meaning command T (ls ++ l ∷ []) (cs ++ c ∷ [])
  said_more [] [] l c h e = (e, tt)
  said_more (m ∷ ls) (d ∷ cs) l c h e = (h.0, said_more ls cs l c h.1 e)
  said_more [] (d ∷ cs) l c h e = absurd h
  said_more (m ∷ ls) [] l c h e = absurd h

  told_more : (was : T.Notes) (n : ℕ) (ls : List (List ℕ)) (cs : List C) (as' : List A) (l : List ℕ) (c : C) (a : A) → AreSaid X.meaning command T ls cs → length cs ≡ length as' → told X.meaning command T was n (ls ++ l ∷ []) (cs ++ c ∷ []) (as' ++ a ∷ []) ≡ told X.meaning command T was n ls cs as' ++ T.tells (noted X.meaning command T was cs as') (next_number (line_number n ls)) l c a
  told_more was n [] [] [] l c a h e = append-nil (T.tells was (next_number n) l c a)
  told_more was n (m ∷ ls) (d ∷ cs) (b ∷ as') l c a h e =
      let k = next_number n in
      let then = T.next_notes was d b in
      ap (λ xs. T.tells was k m d b ++ xs) (told_more then k ls cs as' l c a h.1 (omega (arith, e))) ∙ sym (append_assoc (T.tells was k m d b) (told X.meaning command T then k ls cs as') (T.tells (noted X.meaning command T then cs as') (next_number (line_number k ls)) l c a))
  told_more was n [] [] (b ∷ as') l c a h e = absurd cc
  told_more was n (m ∷ ls) (d ∷ cs) [] l c a h e = absurd cc
  told_more was n [] (d ∷ cs) as' l c a h e = absurd h
  told_more was n (m ∷ ls) [] as' l c a h e = absurd h

  noted_more : (was : T.Notes) (cs : List C) (as' : List A) (c : C) (a : A) → length cs ≡ length as' → noted X.meaning command T was (cs ++ c ∷ []) (as' ++ a ∷ []) ≡ T.next_notes (noted X.meaning command T was cs as') c a
  noted_more was [] [] c a e = refl
  noted_more was (d ∷ cs) (b ∷ as') c a e = noted_more (T.next_notes was d b) cs as' c a (omega (arith, e))
  noted_more was [] (b ∷ as') c a e = absurd cc
  noted_more was (d ∷ cs) [] c a e = absurd cc

  read_more : (most : ℕ) (left rest : Option (List ℕ)) (ls : List (List ℕ)) (s : Source) → IfSome left (λ text. (r : List ℕ) × (rest ≡ Some r) × Reads text ls r) → IfSome rest (λ text. IsRead most text true s) → length s.line ≤ most → IfSome left (λ text. (r : List ℕ) × (s.left ≡ Some r) × Reads text (ls ++ s.line ∷ []) r)
  read_more most None rest ls s h i l = tt
  read_more most (Some text) rest ls s h i l =
      let j : IsRead most h.0 true s = subst (λ o. IfSome o (λ text. IsRead most text true s)) h.1 i in
      let w = read_whole most h.0 s j l in
      (other_lines h.0, w.1, rw w.0 (reads_more text ls h.0 h.2 j.0))

  ended : (n : ℕ) (left rest : Option (List ℕ)) (ls : List (List ℕ)) (outcome : Result (Unit {0}) Fault) → IfSome left (λ text. (r : List ℕ) × (rest ≡ Some r) × Reads text ls r) → ((r : List ℕ) → rest ≡ Some r → Ends X.meaning command T (line_number n ls) r outcome) → IfSome left (λ text. (r : List ℕ) × Reads text ls r × Ends X.meaning command T (line_number n ls) r outcome)
  ended n None rest ls outcome h e = tt
  ended n (Some text) rest ls outcome h e = (h.0, h.2, e h.0 h.1)

module _ {S C A W : Type 0} {X : Semantics S C A W} {command : List ℕ → Option C} {T : Transcript C A} where
  pub nothing_so_far : {was : T.Notes} {old : S} {n : ℕ} {left before : Option (List ℕ)} → SoFar X command T was was old old n left n left before before
  nothing_so_far {was} {old} {n} {left} {before} = record {
    lines = [];
    commands = [];
    replies = [];
    said = tt;
    history = no_history old;
    read = read_none X command T left;
    numbered = refl;
    printed = appends_nothing before;
    remembered = refl;
  }

  module _ {was is : T.Notes} {old now : S} {n number : ℕ} {left rest before after : Option (List ℕ)} (f : SoFar X command T was is old now n left number rest before after) where
    -- nothing more was written
    pub kept_so_far : (written : Option (List ℕ)) → Keeps after written → SoFar X command T was is old now n left number rest before written
    kept_so_far written k = record {
      lines = f.lines;
      commands = f.commands;
      replies = f.replies;
      said = f.said;
      history = f.history;
      read = f.read;
      numbered = f.numbered;
      printed = appends_kept before after written _ f.printed k;
      remembered = f.remembered;
    }

    -- the script ends so
    pub ends_so : OwedAreIdle X → {outcome : Result (Unit {0}) Fault} → ((r : List ℕ) → rest ≡ Some r → Ends X.meaning command T number r outcome) → Played X.meaning command T was is (X.object old) (X.registrations old) n left before after outcome
    ends_so law {outcome} e = record {
      lines = f.lines;
      commands = f.commands;
      replies = f.replies;
      new = X.object now;
      registered2 = X.registrations now;
      said = f.said;
      run = good_run_of law f.history;
      read = ended X command T n left rest f.lines outcome f.read (λ r g. subst (λ k. Ends X.meaning command T k r outcome) f.numbered (e r g));
      printed = λ _. f.printed;
      remembered = λ _. f.remembered;
    }

    -- Another line was read, and is a command, which the machine has answered.
    module _ (most : ℕ) (s : Source) (line : List ℕ) {b : Bool} (i : IfSome rest (λ text. IsRead most text b s)) (t : b ≡ true) (e : line ≡ s.line) (l : length line ≤ most) {c : C} {a : A} (is_said : command line ≡ Some c) {next : S} (turn : Turn X now c a next) where
      pub more_so_far : {then : T.Notes} (written : Option (List ℕ)) → s.number ≡ next_number number → Appends after written (T.tells is s.number line c a) → then ≡ T.next_notes is c a → SoFar X command T was then old next n left s.number s.left before written
      more_so_far written k p m = record {
        lines = f.lines ++ line ∷ [];
        commands = f.commands ++ c ∷ [];
        replies = f.replies ++ a ∷ [];
        said = said_more X command T f.lines f.commands line c f.said is_said;
        history = longer f.history turn;
        read = rw e (read_more X command T most left rest f.lines s f.read (is_there most s rest b i t) (rw e at l));
        numbered = k ∙ rw f.numbered (sym (line_number-more n f.lines line));
        printed = rw (told_more X command T was n f.lines f.commands f.replies line c a f.said (same_length f.history), ← f.numbered, ← k, ← f.remembered) (appends_more before after written _ _ f.printed p);
        remembered = m ∙ rw (noted_more X command T was f.commands f.replies c a (same_length f.history), ← f.remembered) refl;
      }

      -- its reply was told in part, or not at all
      pub ends_untold : OwedAreIdle X → {then : T.Notes} {written : Option (List ℕ)} {fault : Fault} → (IsJudged (Err fault) → ⊥) → Played X.meaning command T was then (X.object old) (X.registrations old) n left before written (Err fault)
      ends_untold law {then} {written} {fault} u = record {
        lines = f.lines ++ line ∷ [];
        commands = f.commands ++ c ∷ [];
        replies = f.replies ++ a ∷ [];
        new = X.object next;
        registered2 = X.registrations next;
        said = said_more X command T f.lines f.commands line c f.said is_said;
        run = good_run_of law (longer f.history turn);
        read = ended X command T n left s.left (f.lines ++ line ∷ []) (Err fault) (rw e (read_more X command T most left rest f.lines s f.read (is_there most s rest b i t) (rw e at l))) (λ r g. ends_unjudged X.meaning command T _ r fault u);
        printed = λ j. absurd (u j);
        remembered = λ j. absurd (u j);
      }

-- What a line says that was read so, or that it says nothing.
module _ {C : Type 0} (most : ℕ) (said : List ℕ → List (List ℕ) → Option C) (s : Source) where
  pub unreadable : (left : Option (List ℕ)) (b : Bool) → IfSome left (λ text. IsRead most text b s) → b ≡ true → (IsUtf8 s.line → most < length s.line) → (r : List ℕ) → left ≡ Some r → (r ≡ [] → ⊥) × (says most said (first_line r) ≡ None)
  unreadable left b h n u r e = (let j = read_of most s left b h n r e in (j.0, says_nothing most said r s j u))

  pub unsaid : (left : Option (List ℕ)) (b : Bool) → IfSome left (λ text. IsRead most text b s) → b ≡ true → (line : List ℕ) → line ≡ s.line → IsUtf8 line → length line ≤ most → named said (words_of line) ≡ None → (r : List ℕ) → left ≡ Some r → (r ≡ [] → ⊥) × (says most said (first_line r) ≡ None)
  unsaid left b h n line f u l e r g =
      let j = read_of most s left b h n r g in
      let w = read_whole most r s j (rw f at l) in
      (j.0, rw (← w.0, ← f) (says_words most said line u l ∙ e))

  -- line 1 was read, or there is none
  pub no_line : (left : Option (List ℕ)) (b : Bool) → IfSome left (λ text. IsRead most text b s) → b ≡ false → IfSome left (λ all. (all ≡ []) ⊎ (says most said (first_line all) ≡ None))
  no_line None b h n = tt
  no_line (Some text) b h n = inl (at_end most s (Some text) b h n text refl)

  pub bad_line : (left : Option (List ℕ)) (b : Bool) → IfSome left (λ text. IsRead most text b s) → b ≡ true → (IsUtf8 s.line → most < length s.line) → IfSome left (λ all. (all ≡ []) ⊎ (says most said (first_line all) ≡ None))
  bad_line None b h n u = tt
  bad_line (Some text) b h n u = inr (unreadable (Some text) b h n u text refl).1

  pub good_line : (left : Option (List ℕ)) (b : Bool) → IfSome left (λ text. IsRead most text b s) → b ≡ true → (line : List ℕ) → line ≡ s.line → length line ≤ most → IfSome left (λ all. (all ≡ [] → ⊥) × (line ≡ first_line all) × (s.left ≡ Some (other_lines all)))
  good_line None b h n line f l = tt
  good_line (Some text) b h n line f l =
      let j = read_of most s (Some text) b h n text refl in
      let w = read_whole most text s j (rw f at l) in
      (j.0, f ∙ w.0, w.1)

-- what a `?` hands on
pub handed_on : {T : Type 0} (o : Result T Fault) (fault : Fault) → IsErr o × IsErrAnd o (λ x. x ≡ fault) → o ≡ Err fault
handed_on (Ok x) fault h = absurd cc
handed_on (Err e) fault h = ap (λ x. Err x) h.1
