-- Sections as their lines are made, and as they are written out.
use Rattle.std.proofs.Common.{◌≡◌, ◌∙◌, ℕ, zero, suc, List, [], ◌∷◌, ◌++◌, ◌<◌, ◌≤◌, ◌+◌, ◌-◌, ◌%◌, ap, sym, subst, refl, arith, length, get_or, set, drop, append_assoc}
use Rattle.std.proofs.lemmas.Grind.{flat_map-append}
use Rattle.std.proofs.lemmas.List.{append-nil}
use Rattle.std.proofs.lemmas.Slice.Zip.{AllZip-long}
use Rattle.std.proofs.Math.Seq.{drop-cons}
use Rattle.trace_text.specs.SpelledLines.{Line, End, text_of, text_of_line}
use Rattle.trace_maker.specs.declared.sections.SectionText.{SectionText}
use Rattle.trace_maker.specs.Generated.{Section, Making, next, drawn, no_lines, step_of, stepped, one_more, made, section_lines, sections_from}
use Rattle.trace_maker.specs.WrittenSections.{IsWritten, IsStep, AreMade}
use Rattle.trace_maker.proofs.Zips.{zip_at, zip_set}

-- a line more in the section of the caller that is drawn
pub one_made : (texts : List SectionText) (state caller after left number : ℕ) (m : Making) (old new : SectionText) → AreMade texts state m → after ≡ next state → caller ≡ drawn after % 8 → caller < length texts → old ≡ get_or texts caller old
    → ((s : Section) → IsWritten old s → IsStep new left (step_of (drawn (next after) % 16) (next after) number s)) → AreMade (set texts caller new) left (one_more number m)
one_made texts state caller after left number m old new a draw at low same steps =
    let s = get_or m.sections caller no_lines in
    let written : IsWritten old s = subst (λ (t : SectionText). IsWritten t s) (sym same) (zip_at IsWritten texts m.sections caller old no_lines a.sections low) in
    let step = steps s written in
    let here : AreMade (set texts caller new) left (stepped m caller (step_of (drawn (next after) % 16) (next after) number s)) = record { sections = zip_set IsWritten texts m.sections caller new _ a.sections step.section; state = step.state } in
    subst (λ k. AreMade (set texts caller new) left (stepped m (drawn k % 8) (step_of (drawn (next k) % 16) (next k) number (get_or m.sections (drawn k % 8) no_lines)))) (draw ∙ ap next a.state)
    (subst (λ k. AreMade (set texts caller new) left (stepped m k (step_of (drawn (next after) % 16) (next after) number (get_or m.sections k no_lines)))) at here)

-- what is made so far, and what is still to be made of it
pub record AreToMake (left number : ℕ) (texts : List SectionText) (now calls : ℕ) (m : Making) : Type 0 where
  pub making : Making
  pub so_far : AreMade texts now making
  pub rest : made left number making ≡ made calls 1 m

pub one_call : (number end now calls after : ℕ) (texts new : List SectionText) (m : Making) → number < end → AreToMake (end - number) number texts now calls m → ((k : Making) → AreMade texts now k → AreMade new after (one_more number k))
    → AreToMake (end - (number + 1)) (number + 1) new after calls m
unfolding made
one_call number end now calls after texts new m low a more =
    let one : end - number ≡ suc (end - (number + 1)) = omega arith in
    let place : number + 1 ≡ suc number = omega arith in
    record {
      making = one_more number a.making;
      so_far = more a.making a.so_far;
      rest = ap (λ n. made (end - (number + 1)) n (one_more number a.making)) place ∙ sym (ap (λ n. made n number a.making) one) ∙ a.rest;
    }

pub no_call_left : (number end now calls : ℕ) (texts : List SectionText) (m : Making) → end ≤ number → AreToMake (end - number) number texts now calls m → AreMade texts now (made calls 1 m)
unfolding made
no_call_left number end now calls texts m done a =
    let none : end - number ≡ 0 = omega arith in
    subst (AreMade texts now) (sym (ap (λ n. made n number a.making) none) ∙ a.rest) a.so_far

-- a section is written out, and others are left
pub one_section : (i : ℕ) (sections : List Section) (text new all : List ℕ) → i < length sections → new ≡ text ++ text_of (section_lines (i + 1) (get_or sections i no_lines).lines) → text ++ text_of (sections_from (suc i) (drop i sections)) ≡ all
    → new ++ text_of (sections_from (suc (i + 1)) (drop (i + 1) sections)) ≡ all
one_section i sections text new all low put left =
    let place : i + 1 ≡ suc i = omega arith in
    let lines = section_lines (suc i) (get_or sections i no_lines).lines in
    let rest = sections_from (suc (suc i)) (drop (suc i) sections) in
    ap (λ n. new ++ text_of (sections_from (suc n) (drop n sections))) place
    ∙ ap (λ t. t ++ text_of rest) (put ∙ ap (λ n. text ++ text_of (section_lines n (get_or sections i no_lines).lines)) place)
    ∙ append_assoc text (text_of lines) (text_of rest)
    ∙ ap (λ t. text ++ t) (sym (ap (λ xs. text_of (sections_from (suc i) xs)) (drop-cons sections i no_lines low) ∙ flat_map-append text_of_line lines rest))
    ∙ left

no_sections_left : (i k : ℕ) (sections : List Section) → length sections ≤ i → sections_from k (drop i sections) ≡ []
no_sections_left zero k [] h = refl
no_sections_left (suc i) k [] h = refl
no_sections_left zero k (s ∷ sections) h = absurd (omega arith)
no_sections_left (suc i) k (s ∷ sections) h = no_sections_left i k sections (omega arith)

pub no_section_left : (i : ℕ) (sections : List Section) (text all : List ℕ) → length sections ≤ i → text ++ text_of (sections_from (suc i) (drop i sections)) ≡ all → text ≡ all
no_section_left i sections text all done left = sym (ap (λ ls. text ++ text_of ls) (no_sections_left i (suc i) sections done) ∙ append-nil text) ∙ left

-- the sections that were made are as many
pub as_many : (texts : List SectionText) (state : ℕ) (m : Making) → AreMade texts state m → length m.sections ≡ length texts
as_many texts state m a = AllZip-long IsWritten texts m.sections a.sections

-- the whole text
pub whole : (header sections order : List Line) (t1 t2 t3 t4 : List ℕ) → t1 ≡ text_of header → t2 ≡ t1 ++ text_of sections → t3 ≡ t2 ++ text_of order → t4 ≡ t3 ++ text_of_line End → t4 ≡ text_of (header ++ sections ++ order ++ End ∷ [])
whole header sections order t1 t2 t3 t4 h1 h2 h3 h4 =
    h4 ∙ ap (λ t. t ++ text_of_line End) (h3 ∙ ap (λ t. t ++ text_of order) (h2 ∙ ap (λ t. t ++ text_of sections) h1))
    ∙ sym (flat_map-append text_of_line (header ++ sections ++ order) (End ∷ []) ∙ ap (λ t. t ++ text_of_line End) (flat_map-append text_of_line (header ++ sections) order ∙ ap (λ t. t ++ text_of order) (flat_map-append text_of_line header sections)))
