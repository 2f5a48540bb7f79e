use Rattle.std.proofs.Common.{arith, get_or, subst, sym}
use Rattle.trace_maker.specs.declared.sections.SectionText.{SectionText}
use Rattle.trace_maker.specs.Generated.{no_lines}
use Rattle.trace_maker.specs.WrittenSections.{IsWritten}
use Rattle.trace_maker.proofs.Zips.{zip_at}
use Rattle.trace_maker.proofs.Makings.{as_many, no_section_left, one_section}
use Rattle.trace_maker.proofs.maker.put_sections.Goals as goal

pub loop-i-preserved : goal.loop-i-preserved
loop-i-preserved c = λ state m a.
    let s = get_or m.sections c.loop-i.i no_lines in
    let written = subst (λ (t : SectionText). IsWritten t s) (sym c.index-sections-i.is) (zip_at IsWritten c.args.sections.now m.sections c.loop-i.i c.index-sections-i.result no_lines a.sections c.loop-i-test.true) in
    one_section c.loop-i.i m.sections c.loop-i.text.items c.put_section.new.text.items _ (omega (arith, as_many c.args.sections.now state m a, c.loop-i-test.true))
    (c.in_ok-put_section.ensures s written) (c.loop-i.invariant state m a)

pub returns : goal.returns
returns c = λ state m a. no_section_left c.loop-i.i m.sections c.loop-i.text.items _ (omega (arith, as_many c.args.sections.now state m a, c.loop-i-test.false)) (c.loop-i.invariant state m a)
