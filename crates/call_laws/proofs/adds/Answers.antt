use Rattle.call_laws.proofs.AddedWords.{adds_change_one_word}
use Rattle.call_laws.proofs.adds.Goals as goal

pub returns : goal.returns
returns c = record { one_word = adds_change_one_word }
