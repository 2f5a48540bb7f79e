use Rattle.std.proofs.Common.{◌≡◌, ◌∙◌, sym, ap, codes, [], ◌∷◌, map, string_bytes, subst, IfSome, IfNone}
use Rattle.std.proofs.lemmas.Slice.Eq.{bytes_eq-Decides}
use Rattle.trace_replay.specs.CommandWords.{Name, NameNone}
use Rattle.trace_replay.proofs.OneCommand.{three_words, of_three}
use Rattle.trace_replay.proofs.words.find_command.Goals as goal

spelled : (c : goal.After-find_numbers) → map string_bytes c.args.words.now ≡ codes "make" ∷ c.as_str-in-len3.result.now ∷ c.as_str-in-len3-2.result.now ∷ []
spelled c =
    let word : c.as_str-then-words-lt4.result.now ≡ codes "make" = (bytes_eq-Decides c.as_str-then-words-lt4.result.now (codes "make")).0 (sym c.eq.ensures ∙ c.if-eq.true) in
    ap (map string_bytes) (three_words c.args.words.now c.word-item-then-words-lt4.result c.start-item.result c.calls-item.result _ _ _ c.in-len3.len_at_least c.in-len3.len_below c.word-item-then-words-lt4.is c.start-item.is c.calls-item.is)
    ∙ of_three (sym c.as_str-then-words-lt4.ensures.value ∙ word) (sym c.as_str-in-len3.ensures.value) (sym c.as_str-in-len3-2.ensures.value)

pub returns-in-len3-clause-some : goal.returns-in-len3-clause-some
returns-in-len3-clause-some c = subst (λ words. IfSome c.find_numbers.result (λ command. Name command words)) (sym (spelled c)) c.find_numbers.ensures.some

pub returns-in-len3-clause-none : goal.returns-in-len3-clause-none
returns-in-len3-clause-none c = subst (λ words. IfNone c.find_numbers.result (NameNone words)) (sym (spelled c)) c.find_numbers.ensures.none
