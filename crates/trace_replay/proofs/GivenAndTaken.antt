-- What a source has given so far, and what a sink has taken.
use Rattle.std.proofs.Common.{OnErr, Result, ◌≡◌, ◌≤◌, ◌-◌, ℕ, List, ◌++◌, Option, Some, None, Ok, Err, refl, length, take, drop, sym, ap, ◌∙◌, arith}
use Rattle.std.proofs.lemmas.List.{append_assoc, take-append-drop, length-drop}
use Rattle.std.proofs.Math.Seq.{take-append_seam}
use Rattle.std.specs.Io.KnownBytes.{Keeps, Consumes, Appends}
use Rattle.trace_replay.specs.Streams.{Gives, Takes, Fills, IsReadInPart}

-- what was left at first is what was gathered, and then what is left now
pub record HasGathered (first left : Option (List ℕ)) (before now : ℕ) (bytes : List ℕ) : Type 0 where
  pub split : (told : List ℕ) → first ≡ Some told → (rest : List ℕ) × (left ≡ Some rest) × (told ≡ bytes ++ rest)
  pub short : length bytes ≤ 16777216
  pub counted : now ≡ before

-- what was taken is what was taken at first, and then the text up to the rest
pub record HasSent (first taken : Option (List ℕ)) (room : Option ℕ) (before now : ℕ) (text rest : List ℕ) : Type 0 where
  pub sent : (told : List ℕ) → first ≡ Some told → (front : List ℕ) × (taken ≡ Some (told ++ front)) × (text ≡ front ++ rest)
  pub fits : (left : ℕ) → room ≡ Some left → length rest ≤ left
  pub counted : now ≡ before

-- a failed write leaves a prefix of the text
pub prefix_sent : (E : Type 0) (e : E) (first taken after : Option (List ℕ)) (room : Option ℕ) (before now : ℕ) (text rest : List ℕ) → HasSent first taken room before now text rest
    → ((bytes : List ℕ) → taken ≡ Some bytes → Takes {E = E} bytes after rest (Err e)) → (told : List ℕ) → first ≡ Some told → (n : ℕ) × (after ≡ Some (told ++ take n text))
prefix_sent E e first taken after room before now text rest held takes told is =
    let (front, took, whole) = held.sent told is in
    (length front, takes (told ++ front) took ∙ ap (λ f. Some (told ++ f)) (sym (ap (take (length front)) whole ∙ take-append_seam front rest)))

-- a failed read leaves what was gathered as the part that was read
pub read_in_part : (E : Type 0) (e : E) (first left after : Option (List ℕ)) (before now : ℕ) (bytes buffer : List ℕ) → HasGathered first left before now bytes
    → ((rest : List ℕ) → left ≡ Some rest → Gives {E = E} rest after buffer (Err e)) → (told : List ℕ) → first ≡ Some told → IsReadInPart 16777216 told after
read_in_part E e first left after before now bytes buffer held gives told is =
    let (rest, there, whole) = held.split told is in
    record { front = bytes; rest = rest; whole = whole; is_left = gives rest there; within = held.short }

-- what an interrupted call keeps
pub kept_first : (a : Option (List ℕ)) → Keeps a a
kept_first None = tt
kept_first (Some xs) = refl

pub kept_after : (a b c : Option (List ℕ)) → Keeps a b → Keeps b c → Keeps a c
kept_after None b c k h = tt
kept_after (Some xs) None c k h = absurd k
kept_after (Some xs) (Some ys) None k h = absurd h
kept_after (Some xs) (Some ys) (Some zs) k h = h ∙ k

pub consumes_after : (a b c : Option (List ℕ)) (bs : List ℕ) → Keeps a b → Consumes b c bs → Consumes a c bs
consumes_after None b c bs k h = tt
consumes_after (Some xs) None c bs k h = absurd k
consumes_after (Some xs) (Some ys) None bs k h = absurd h
consumes_after (Some xs) (Some ys) (Some zs) bs k h = sym k ∙ h

pub appends_after : (a b c : Option (List ℕ)) (bs : List ℕ) → Keeps a b → Appends b c bs → Appends a c bs
appends_after None b c bs k h = tt
appends_after (Some xs) None c bs k h = absurd k
appends_after (Some xs) (Some ys) None bs k h = absurd h
appends_after (Some xs) (Some ys) (Some zs) bs k h = h ∙ ap (λ l. l ++ bs) k

-- what is left of the text fits in what is left of the room
fits_still : (E : Type 0) (room left : Option ℕ) (n : ℕ) (rest : List ℕ) → ((some : ℕ) → room ≡ Some some → length rest ≤ some)
    → ((some : ℕ) → room ≡ Some some → Fills {E = E} some left (Ok n)) → (room ≡ None → left ≡ None) → (some : ℕ) → left ≡ Some some → length (drop n rest) ≤ some
fits_still E None left n rest fits fills untold some is = absurd (let none = untold refl in cc)
fits_still E (Some room) left n rest fits fills untold some is =
    let filled = fills room refl in
    let now = filled.1 in
    let same : some ≡ room - n = cc in
    let before = fits room refl in
    omega (arith, length-drop n rest)

-- a write sends more of it
pub sends_more : (E : Type 0) (first taken after : Option (List ℕ)) (room left : Option ℕ) (before now later n : ℕ) (text rest : List ℕ) → HasSent first taken room before now text rest
    → ((bytes : List ℕ) → taken ≡ Some bytes → Takes {E = E} bytes after rest (Ok n)) → ((some : ℕ) → room ≡ Some some → Fills {E = E} some left (Ok n)) → (room ≡ None → left ≡ None) → later ≡ now
    → HasSent first after left before later text (drop n rest)
sends_more E first taken after room left before now later n text rest held takes fills untold rises = record {
  sent = λ told is.
      let (front, took, whole) = held.sent told is in (
        front ++ take n rest,
        takes (told ++ front) took ∙ ap Some (append_assoc told front (take n rest)),
        whole ∙ ap (λ r. front ++ r) (sym (take-append-drop n rest)) ∙ sym (append_assoc front (take n rest) (drop n rest)),
      );
  fits = fits_still E room left n rest held.fits fills untold;
  counted = rises ∙ held.counted;
}

pub on_err : (A E : Type 0) (P : Type 0) (r : Result A E) → P → OnErr r P
on_err A E P (Ok x) p = tt
on_err A E P (Err e) p = p
