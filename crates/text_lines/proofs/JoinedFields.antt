-- Fields behind others.
use Rattle.std.proofs.Common.{◌≡◌, ◌∙◌, ℕ, List, [], ◌∷◌, ◌++◌, refl, ap, sym, append_assoc, length, map, take, get_or, ◌+◌, ◌<◌}
use Rattle.std.proofs.lemmas.List.{append-nil, map-append, take_more}
use Rattle.vm_model.specs.Words.{fields, line}

pub fields-front : (f : List ℕ) (gs : List (List ℕ)) → fields (f ∷ gs) ≡ f ++ fields ([] ∷ gs)
fields-front f [] = sym (append-nil f)
fields-front f (g ∷ gs) = refl

pub fields-append : (f : List ℕ) (gs hs : List (List ℕ)) → fields (f ∷ (gs ++ hs)) ≡ (f ++ fields ([] ∷ gs)) ++ fields ([] ∷ hs)
fields-append f [] hs = fields-front f hs ∙ ap (λ t. t ++ fields ([] ∷ hs)) (sym (append-nil f))
fields-append f (g ∷ gs) hs = ap (λ t. f ++ 32 ∷ t) (fields-append g gs hs ∙ ap (λ t. t ++ fields ([] ∷ hs)) (sym (fields-front g gs))) ∙ sym (append_assoc f (32 ∷ fields (g ∷ gs)) (fields ([] ∷ hs)))

-- a field more behind the others
fields-more : (f g : List ℕ) (gs : List (List ℕ)) → fields (f ∷ (gs ++ g ∷ [])) ≡ fields (f ∷ gs) ++ 32 ∷ g
fields-more f g gs = fields-append f gs (g ∷ []) ∙ ap (λ t. t ++ 32 ∷ g) (sym (fields-front f gs))

-- the text of the thing at its place, as a field more
pub words_step : {X : Type 0} (text : X → List ℕ) (xs : List X) (i : ℕ) (x d : X) (old t new : List ℕ) → i < length xs → x ≡ get_or xs i d → t ≡ old ++ fields ([] ∷ map text (take i xs)) → new ≡ t ++ 32 ∷ text x
    → new ≡ old ++ fields ([] ∷ map text (take (i + 1) xs))
words_step text xs i x d old t new h same written put =
    put ∙ ap (λ u. u ++ 32 ∷ text x) written ∙ append_assoc old (fields ([] ∷ map text (take i xs))) (32 ∷ text x) ∙ ap (λ y. old ++ (fields ([] ∷ map text (take i xs)) ++ 32 ∷ text y)) same
    ∙ ap (λ u. old ++ u) (sym (ap (λ ys. fields ([] ∷ map text ys)) (take_more xs i d h) ∙ ap (λ fs. fields ([] ∷ fs)) (map-append text (take i xs) (get_or xs i d ∷ [])) ∙ fields-more [] (text (get_or xs i d)) (map text (take i xs))))

-- fields behind a text, a space before each
pub record Puts (old new : List ℕ) (fs : List (List ℕ)) : Type 0 where
  pub text : new ≡ old ++ fields ([] ∷ fs)

pub both : {t u v : List ℕ} {fs gs : List (List ℕ)} → Puts t u fs → Puts u v gs → Puts t v (fs ++ gs)
both {t = t} {u = u} {v = v} {fs = fs} {gs = gs} a b = record { text = b.text ∙ ap (λ x. x ++ fields ([] ∷ gs)) a.text ∙ append_assoc t (fields ([] ∷ fs)) (fields ([] ∷ gs)) ∙ ap (λ x. t ++ x) (sym (fields-append [] fs gs)) }

-- a word, fields behind it and the end of the line
pub line_text : (t u v w : List ℕ) (fs : List (List ℕ)) → u ≡ t ++ w → Puts u v fs → v ++ 10 ∷ [] ≡ t ++ line (w ∷ fs)
line_text t u v w fs h a = ap (λ x. x ++ 10 ∷ []) (a.text ∙ ap (λ x. x ++ fields ([] ∷ fs)) h ∙ append_assoc t w (fields ([] ∷ fs)) ∙ ap (λ x. t ++ x) (sym (fields-front w fs))) ∙ append_assoc t (fields (w ∷ fs)) (10 ∷ [])
