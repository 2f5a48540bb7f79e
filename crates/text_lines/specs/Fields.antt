-- What a field is written as.
use Rattle.std.specs.Prelude.{◌≡◌, ◌≤◌, ℕ, List, ◌++◌, map, drop, decimal}
use Rattle.std.specs.Fmt.{signed_decimal}
use Rattle.text_lines.specs.declared.field.Field.{Field}
use Rattle.text_lines.specs.declared.field.Field.TheVariants.{Word, Number, Amount, Tagged, Joined, Pair}

abbrev pub field_text : Field → List ℕ
field_text (Word word) = word.now
field_text (Number n) = decimal n
field_text (Amount n) = signed_decimal n
field_text (Tagged tag n) = tag.now ++ decimal n
field_text (Joined front back) = front.now ++ back.now
field_text (Pair a mark b) = decimal a ++ mark.now ++ decimal b

abbrev pub field_texts : List Field → List (List ℕ)
field_texts fields = map field_text fields

-- from the start on there stand a text and then what stood from the end on
pub record StandsBefore (text old : List ℕ) (end : ℕ) (new : List ℕ) (start : ℕ) : Type 0 where
  pub within : start ≤ end
  pub written : drop start new ≡ text ++ drop end old
