-- What calls made and which of them were freed, before and after one more answer.
use Rattle.std.proofs.Common.{◌≡◌, ℕ, zero, suc, ◌+◌, ◌-◌, ◌==◌, ◌≤◌, ◌⊎◌, inl, inr, Bool, true, false, ◌&&◌, ◌||◌, List, [], ◌∷◌, ◌++◌, length, take, drop, slice_get, slice_set, slice_index_or, Some, refl, ap, sym, ◌∙◌, subst, arith, add-zero}
use Rattle.std.proofs.lemmas.Bool.Decides.{nat_tests}
use Rattle.std.specs.List.{list_any}
use Rattle.vm_model.specs.declared.calls.Call.{Call}
use Rattle.vm_model.specs.declared.calls.Call.TheVariants.{FreePercpu}
use Rattle.vm_model.specs.declared.calls.Reply.{Reply}
use Rattle.vm_model.specs.declared.calls.Reply.TheVariants.{Done}
use Rattle.vm_model.specs.Calls.{Answered, is_free_of, is_done, was_freed}
use Rattle.history_book.specs.declared.noted.Noted.{Noted}
use Rattle.callers.specs.declared.answers.Made.{Made}
use Rattle.callers.specs.declared.answers.Made.TheVariants.{Nothing}
use Rattle.callers.specs.declared.answers.Outcome.{Outcome}
use Rattle.callers.specs.CallerParts.{answer_with, answers_with, TellFreed, with_freed, after_reply, IsSoundCall, AreSound}

any_more : {X : Type 0} (p : X → Bool) (xs : List X) (x : X) → list_any p (xs ++ x ∷ []) ≡ (list_any p xs || p x)
any_more p [] x = or_none (p x)
  where
    or_none : (b : Bool) → (b || false) ≡ b
    or_none true = refl
    or_none false = refl
any_more p (y ∷ xs) x = ap (λ b. p y || b) (any_more p xs x) ∙ or_all (p y) (list_any p xs) (p x)
  where
    or_all : (a b c : Bool) → (a || (b || c)) ≡ ((a || b) || c)
    or_all true b c = refl
    or_all false b c = refl

-- whether an answer freed what the call with this number made
abbrev pub frees : ℕ → Call → Reply → Bool
frees number call reply = is_free_of number call && is_done reply

pub was_freed_more : (answers : List Answered) (x : Answered) (number : ℕ) → was_freed (answers ++ x ∷ []) number ≡ (was_freed answers number || frees number x.call x.reply)
was_freed_more answers x number = any_more (λ (answer : Answered). is_free_of number answer.call && is_done answer.reply) answers x

-- a sound call frees none after those before it
frees_earlier : (index n : ℕ) (call : Call) → IsSoundCall index call → index ≤ n → is_free_of (suc n) call ≡ false
frees_earlier index n (FreePercpu t) is low = let before = is.1 in grind (arith, nat_tests)
frees_earlier index n _ is low = refl

abbrev AreSoundFrom : ℕ → List Call → Type 0
AreSoundFrom first calls = (i : ℕ) (call : Call) → slice_get calls i ≡ Some call → IsSoundCall (first + i) call

sound_rest : (first : ℕ) (call : Call) (calls : List Call) → AreSoundFrom first (call ∷ calls) → AreSoundFrom (suc first) calls
sound_rest first call calls are i own at = let same : first + suc i ≡ suc first + i = omega arith in subst (λ n. IsSoundCall n own) same (are (suc i) own at)

unfreed_from : (first n : ℕ) (calls : List Call) (rows : List Noted) (outcomes : List Outcome) → AreSoundFrom first calls → first + length rows ≤ suc n → was_freed (answers_with calls rows outcomes) (suc n) ≡ false
unfreed_from first n [] rows outcomes are low = refl
unfreed_from first n (call ∷ calls) [] outcomes are low = refl
unfreed_from first n (call ∷ calls) (r ∷ rows) [] are low = refl
unfreed_from first n (call ∷ calls) (r ∷ rows) (o ∷ outcomes) are low =
    let here : is_free_of (suc n) call ≡ false = frees_earlier first n call (subst (λ i. IsSoundCall i call) (add-zero first) (are 0 call refl)) (omega arith) in
    ap (λ b. (b && is_done r.reply) || was_freed (answers_with calls rows outcomes) (suc n)) here
    ∙ unfreed_from (suc first) n calls rows outcomes (sound_rest first call calls are) (omega arith)

-- no answered call has freed the call that is answered last
pub unfreed : (n : ℕ) (calls : List Call) (rows : List Noted) (outcomes : List Outcome) → AreSound calls → length rows ≤ suc n → was_freed (answers_with calls rows outcomes) (suc n) ≡ false
unfreed n calls rows outcomes are low =
    unfreed_from 0 n calls rows outcomes (λ i call at. let same : i ≡ 0 + i = omega arith in subst (λ k. IsSoundCall k call) same (are i call at)) (omega arith)

-- with the outcome at a place freed
length-with_freed : (n : ℕ) (outcomes : List Outcome) → length (with_freed n outcomes) ≡ length outcomes
length-with_freed n [] = refl
length-with_freed zero (o ∷ outcomes) = refl
length-with_freed (suc n) (o ∷ outcomes) = ap suc (length-with_freed n outcomes)

answers_with_freed : (n : ℕ) (calls : List Call) (rows : List Noted) (outcomes : List Outcome) → answers_with calls rows (with_freed n outcomes) ≡ answers_with calls rows outcomes
answers_with_freed n [] rows outcomes = refl
answers_with_freed n (call ∷ calls) [] outcomes = refl
answers_with_freed n (call ∷ calls) (r ∷ rows) [] = refl
answers_with_freed zero (call ∷ calls) (r ∷ rows) (o ∷ outcomes) = refl
answers_with_freed (suc n) (call ∷ calls) (r ∷ rows) (o ∷ outcomes) = ap (λ more. answer_with call r o ∷ more) (answers_with_freed n calls rows outcomes)

pub freed_in_place : (n : ℕ) (outcomes : List Outcome) → slice_set outcomes n (record { made = (slice_index_or outcomes n (record { made = Nothing; freed = false })).made; freed = true }) ≡ with_freed n outcomes
freed_in_place n [] = refl
freed_in_place zero (o ∷ outcomes) = refl
freed_in_place (suc n) (o ∷ outcomes) = ap (λ more. o ∷ more) (freed_in_place n outcomes)

-- the outcome that was there, and whether it is freed now
record WasAt (outcomes : List Outcome) (i : ℕ) (o : Outcome) (now : Bool) : Type 0 where
  pub before : Outcome
  pub at : slice_get outcomes i ≡ Some before
  pub freed : o.freed ≡ (before.freed || now)

or_false : (b : Bool) → b ≡ (b || false)
or_false true = refl
or_false false = refl

or_true : (b : Bool) → true ≡ (b || true)
or_true true = refl
or_true false = refl

apart : (i : ℕ) → false ≡ (0 == suc i)
apart i = grind (arith, nat_tests)

apart_too : (n : ℕ) → false ≡ (suc n == 0)
apart_too n = grind (arith, nat_tests)

shifted : (n i : ℕ) → 1 ≤ n → (n - 1 == i) ≡ (n == suc i)
shifted n i low = by (n - 1 == i) (n == suc i) refl refl
  where
    by : (a b : Bool) → (n - 1 == i) ≡ a → (n == suc i) ≡ b → a ≡ b
    by true true x y = refl
    by true false x y = absurd (grind (arith, nat_tests))
    by false true x y = absurd (grind (arith, nat_tests))
    by false false x y = refl

with_freed_at : (n : ℕ) (outcomes : List Outcome) (i : ℕ) (o : Outcome) → slice_get (with_freed n outcomes) i ≡ Some o → WasAt outcomes i o (n == i)
with_freed_at n [] i o h = cc
with_freed_at zero (x ∷ outcomes) zero o h = let same : record x { freed = true } ≡ o = cc in record { before = x; at = refl; freed = ap (λ (y : Outcome). y.freed) (sym same) ∙ or_true x.freed }
with_freed_at zero (x ∷ outcomes) (suc i) o h = record { before = o; at = h; freed = or_false o.freed ∙ ap (λ b. o.freed || b) (apart i) }
with_freed_at (suc n) (x ∷ outcomes) zero o h = let same : x ≡ o = cc in record { before = x; at = refl; freed = ap (λ (y : Outcome). y.freed) (sym same) ∙ or_false x.freed ∙ ap (λ b. x.freed || b) (apart_too n) }
with_freed_at (suc n) (x ∷ outcomes) (suc i) o h =
    let was = with_freed_at n outcomes i o h in
    let here : (n == i) ≡ (suc n - 1 == i) = ap (λ k. k == i) (omega arith) in
    record { before = was.before; at = was.at; freed = was.freed ∙ ap (λ b. was.before.freed || b) (here ∙ shifted (suc n) i (omega arith)) }

-- after a call with this reply
pub length-after_reply : (call : Call) (reply : Reply) (outcomes : List Outcome) → length (after_reply (Some call) reply outcomes) ≡ length outcomes
length-after_reply (FreePercpu t) Done outcomes = length-with_freed (t.call - 1) outcomes
length-after_reply (FreePercpu t) _ outcomes = refl
length-after_reply _ reply outcomes = refl

pub answers_after_reply : (call : Call) (reply : Reply) (calls : List Call) (rows : List Noted) (outcomes : List Outcome) → answers_with calls rows (after_reply (Some call) reply outcomes) ≡ answers_with calls rows outcomes
answers_after_reply (FreePercpu t) Done calls rows outcomes = answers_with_freed (t.call - 1) calls rows outcomes
answers_after_reply (FreePercpu t) _ calls rows outcomes = refl
answers_after_reply _ reply calls rows outcomes = refl

after_reply_at : (index : ℕ) (call : Call) (reply : Reply) (outcomes : List Outcome) (i : ℕ) (o : Outcome) → IsSoundCall index call → slice_get (after_reply (Some call) reply outcomes) i ≡ Some o → WasAt outcomes i o (frees (suc i) call reply)
after_reply_at index (FreePercpu t) Done outcomes i o is h =
    let named = is.0 in
    let same : (t.call - 1 == i) ≡ (t.call == suc i) = shifted t.call i named in
    let was = with_freed_at (t.call - 1) outcomes i o h in
    record { before = was.before; at = was.at; freed = was.freed ∙ ap (λ b. was.before.freed || b) (same ∙ and_true (t.call == suc i)) }
  where
    and_true : (b : Bool) → b ≡ (b && true)
    and_true true = refl
    and_true false = refl
after_reply_at index (FreePercpu t) reply outcomes i o is h = record { before = o; at = h; freed = or_false o.freed ∙ ap (λ b. o.freed || b) (and_false (t.call == suc i)) }
  where
    and_false : (b : Bool) → false ≡ (b && false)
    and_false true = refl
    and_false false = refl
after_reply_at index _ reply outcomes i o is h = record { before = o; at = h; freed = or_false o.freed }

-- an element of a list with one more is one of the list, or the one more
pushed_at : {X : Type 0} (xs : List X) (x y : X) (i : ℕ) → slice_get (xs ++ x ∷ []) i ≡ Some y → (slice_get xs i ≡ Some y) ⊎ ((i ≡ length xs) × (x ≡ y))
pushed_at [] x y zero h = inr (refl, cc)
pushed_at [] x y (suc i) h = cc
pushed_at (z ∷ xs) x y zero h = inl h
pushed_at (z ∷ xs) x y (suc i) h = elim (pushed_at xs x y i h) [ inl at ↦ inl at | inr last ↦ inr (ap suc last.0, last.1) ]

-- what was told of the calls before, and of the one that is answered, is told after it
pub freed_more : (outcomes : List Outcome) (answers : List Answered) (x : Answered) (m : Made) → TellFreed outcomes answers → IsSoundCall (length outcomes) x.call → was_freed answers (suc (length outcomes)) ≡ false
    → TellFreed (after_reply (Some x.call) x.reply outcomes ++ record { made = m; freed = false } ∷ []) (answers ++ x ∷ [])
freed_more outcomes answers x m told is fresh i o h =
    elim (pushed_at (after_reply (Some x.call) x.reply outcomes) (record { made = m; freed = false }) o i h) [
      | inl at ↦
          let was = after_reply_at (length outcomes) x.call x.reply outcomes i o is at in
          was.freed ∙ ap (λ b. b || frees (suc i) x.call x.reply) (told i was.before was.at) ∙ sym (was_freed_more answers x (suc i))
      | inr last ↦
          let count : i ≡ length outcomes = last.0 ∙ length-after_reply x.call x.reply outcomes in
          let none : frees (suc (length outcomes)) x.call x.reply ≡ false = ap (λ b. b && is_done x.reply) (frees_earlier (length outcomes) (length outcomes) x.call is (omega arith)) in
          ap (λ (y : Outcome). y.freed) (sym last.1) ∙ sym (was_freed_more answers x (suc i) ∙ ap (λ n. was_freed answers (suc n) || frees (suc n) x.call x.reply) count
          ∙ ap (λ b. b || frees (suc (length outcomes)) x.call x.reply) fresh ∙ none)
    ]

-- whether a call that was answered is freed, by its number
pub freed_named : (outcomes : List Outcome) (answers : List Answered) (number : ℕ) (o : Outcome) → TellFreed outcomes answers → slice_get outcomes (number - 1) ≡ Some o → 1 ≤ number → o.freed ≡ was_freed answers number
freed_named outcomes answers number o told at low = told (number - 1) o at ∙ ap (was_freed answers) (omega arith)

-- the outcomes once the call at hand is answered: what it freed is noted in place, and its own is pushed
taken_whole : {X : Type 0} (n : ℕ) (xs ys : List X) → n ≡ length xs → take n (xs ++ ys) ≡ xs
taken_whole n [] ys e = ap (λ m. take m ys) e
taken_whole n (x ∷ xs) ys e = ap (λ m. take m (x ∷ xs ++ ys)) e ∙ ap (λ more. x ∷ more) (taken_whole (length xs) xs ys refl)

pub outcomes_then : (calls seen : List Call) (call : Call) (reply : Reply) (outcomes before freed pushed : List Outcome) (n : ℕ) (o : Outcome) → seen ≡ calls → before ≡ outcomes → freed ≡ after_reply (slice_get seen (length before)) reply before
    → slice_get calls (length outcomes) ≡ Some call → n ≡ length outcomes → pushed ≡ take n (freed ++ drop (length freed) outcomes) ++ o ∷ [] → pushed ≡ after_reply (Some call) reply outcomes ++ o ∷ []
outcomes_then calls seen call reply outcomes before freed pushed n o same_calls same noted at count is_pushed =
    let is_freed : freed ≡ after_reply (Some call) reply outcomes =
    noted ∙ ap (λ xs. after_reply (slice_get xs (length before)) reply before) same_calls ∙ ap (λ os. after_reply (slice_get calls (length os)) reply os) same ∙ ap (λ c. after_reply c reply outcomes) at in
    let long : n ≡ length freed = sym (ap length is_freed ∙ length-after_reply call reply outcomes ∙ sym count) in
    is_pushed ∙ ap (λ os. os ++ o ∷ []) (taken_whole n freed (drop (length freed) outcomes) long ∙ is_freed)
