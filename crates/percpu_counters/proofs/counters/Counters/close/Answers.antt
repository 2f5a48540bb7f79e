use Rattle.std.proofs.Common.{◌≡◌, ◌+◌, [], length, map, ap, ◌∙◌, subst, arith}
use Rattle.atomic_table.specs.Table.{Final, Seen}
use Rattle.vm_model.specs.declared.rows.CounterRow.{CounterRow}
use Rattle.percpu_counters.specs.declared.table.Shape.{Shape}
use Rattle.percpu_counters.specs.CounterRule.{Kept}
use Rattle.percpu_counters.specs.RowsFromWords.{rows_in, totals_of, exact_rows}
use Rattle.percpu_counters.proofs.Totals.{totals, exact, if_ok}
use Rattle.percpu_counters.proofs.counters.Counters.close.Goals as goal

pub returns-clause-totals : goal.returns-clause-totals
returns-clause-totals c =
    let v = c.args.pass.place.me.0 in
    let words = c.in_ok-words.words.items in
    let last = subst (λ (s : Shape). Final (Seen (Kept s) c.args.pass.place.id v) words []) c.args.self.shaped c.in_ok-words.ensures.words in
    let all : length v.adds + v.room ≡ c.args.self.shape.adds = (let room = c.args.pass.room in let e = c.requires.all in omega arith) in
    if_ok c.rows.result (λ rows. rows ≡ rows_in c.args.self.shape c.as_slice.result.now) (λ rows. map (λ (r : CounterRow). r.total) rows ≡ totals_of c.args.self.shape v.adds) c.rows.ensures
    (λ rows are. totals c.args.self.shape words c.args.pass.place.id v last all c.args.self.few c.args.pass.empty rows (are ∙ ap (rows_in c.args.self.shape) c.as_slice.ensures.value))

pub returns-clause-alone : goal.returns-clause-alone
returns-clause-alone c = λ alone.
    let v = c.args.pass.place.me.0 in
    let words = c.in_ok-words.words.items in
    let last = subst (λ (s : Shape). Final (Seen (Kept s) c.args.pass.place.id v) words []) c.args.self.shaped c.in_ok-words.ensures.words in
    let all : length v.adds + v.room ≡ c.args.self.shape.adds = (let room = c.args.pass.room in let e = c.requires.all in omega arith) in
    if_ok c.rows.result (λ rows. rows ≡ rows_in c.args.self.shape c.as_slice.result.now) (λ rows. rows ≡ exact_rows c.args.self.shape v.adds) c.rows.ensures
    (λ rows are. exact c.args.self.shape words c.args.pass.place.id v last all c.args.self.few c.args.pass.empty rows (are ∙ ap (rows_in c.args.self.shape) c.as_slice.ensures.value) alone (c.requires.pass.exact alone).1)
