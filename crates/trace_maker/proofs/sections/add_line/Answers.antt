use Rattle.std.proofs.Common.{◌≡◌, ◌∙◌, ◌%◌, ℕ, refl, subst, sym}
use Rattle.std.proofs.lemmas.Result.{on_ok_weaker}
use Rattle.trace_maker.specs.declared.sections.SectionText.{SectionText}
use Rattle.trace_maker.specs.Generated.{Section, Step, drawn, next, step_of}
use Rattle.trace_maker.specs.WrittenSections.{IsStep}
use Rattle.trace_maker.proofs.SectionLines.{drawn_kind, step_area, step_free_area, step_part, step_free_part, step_object, step_free_object, step_add, step_count}
use Rattle.trace_maker.proofs.sections.add_line.Goals as goal

-- the step that was drawn, as it was made
as_drawn : (t : SectionText) (left kind after state number : ℕ) (s : Section) (made : Step) → after ≡ next state → kind ≡ drawn after % 16 → step_of kind after number s ≡ made → IsStep t left made → IsStep t left (step_of (drawn (next state) % 16) (next state) number s)
as_drawn t left kind after state number s made draw is e h = subst (IsStep t left) (sym (drawn_kind kind after state number s draw is ∙ e)) h

pub returns-then-kind-lt3 : goal.returns-then-kind-lt3
returns-then-kind-lt3 c = on_ok_weaker c.take_area.result (λ h s w. as_drawn c.take_area.new.section c.take_area.new.draws.state c.draw_below-kind.result c.draw_below-kind.new.self.state c.args.draws.now.state c.args.number s _ c.draw_below-kind.ensures.state c.draw_below-kind.ensures.drawn (step_area c.draw_below-kind.result c.draw_below-kind.new.self.state c.args.number s c.if-kind-lt3.true) (h s w)) c.take_area.ensures

pub returns-then-kind-lt6 : goal.returns-then-kind-lt6
returns-then-kind-lt6 c = on_ok_weaker c.free_area.result (λ h s w. as_drawn c.free_area.new.section c.draw_below-kind.new.self.state c.draw_below-kind.result c.draw_below-kind.new.self.state c.args.draws.now.state c.args.number s _ c.draw_below-kind.ensures.state c.draw_below-kind.ensures.drawn (step_free_area c.draw_below-kind.result c.draw_below-kind.new.self.state c.args.number s c.if-kind-lt3.false c.if-kind-lt6.true) (record { section = h s w; state = refl })) c.free_area.ensures

pub returns-then-kind-lt8 : goal.returns-then-kind-lt8
returns-then-kind-lt8 c = on_ok_weaker c.take_part.result (λ h s w. as_drawn c.take_part.new.section c.take_part.new.draws.state c.draw_below-kind.result c.draw_below-kind.new.self.state c.args.draws.now.state c.args.number s _ c.draw_below-kind.ensures.state c.draw_below-kind.ensures.drawn (step_part c.draw_below-kind.result c.draw_below-kind.new.self.state c.args.number s c.if-kind-lt6.false c.if-kind-lt8.true) (h s w)) c.take_part.ensures

pub returns-then-kind-lt10 : goal.returns-then-kind-lt10
returns-then-kind-lt10 c = on_ok_weaker c.free_part.result (λ h s w. as_drawn c.free_part.new.section c.draw_below-kind.new.self.state c.draw_below-kind.result c.draw_below-kind.new.self.state c.args.draws.now.state c.args.number s _ c.draw_below-kind.ensures.state c.draw_below-kind.ensures.drawn (step_free_part c.draw_below-kind.result c.draw_below-kind.new.self.state c.args.number s c.if-kind-lt8.false c.if-kind-lt10.true) (record { section = h s w; state = refl })) c.free_part.ensures

pub returns-then-kind-lt12 : goal.returns-then-kind-lt12
returns-then-kind-lt12 c = on_ok_weaker c.take_object.result (λ h s w. as_drawn c.take_object.new.section c.take_object.new.draws.state c.draw_below-kind.result c.draw_below-kind.new.self.state c.args.draws.now.state c.args.number s _ c.draw_below-kind.ensures.state c.draw_below-kind.ensures.drawn (step_object c.draw_below-kind.result c.draw_below-kind.new.self.state c.args.number s c.if-kind-lt10.false c.if-kind-lt12.true) (h s w)) c.take_object.ensures

pub returns-then-kind-lt14 : goal.returns-then-kind-lt14
returns-then-kind-lt14 c = on_ok_weaker c.free_object.result (λ h s w. as_drawn c.free_object.new.section c.draw_below-kind.new.self.state c.draw_below-kind.result c.draw_below-kind.new.self.state c.args.draws.now.state c.args.number s _ c.draw_below-kind.ensures.state c.draw_below-kind.ensures.drawn (step_free_object c.draw_below-kind.result c.draw_below-kind.new.self.state c.args.number s c.if-kind-lt12.false c.if-kind-lt14.true) (record { section = h s w; state = refl })) c.free_object.ensures

pub returns-then-kind-lt15 : goal.returns-then-kind-lt15
returns-then-kind-lt15 c = on_ok_weaker c.add_amount.result (λ h s w. as_drawn c.add_amount.new.section c.add_amount.new.draws.state c.draw_below-kind.result c.draw_below-kind.new.self.state c.args.draws.now.state c.args.number s _ c.draw_below-kind.ensures.state c.draw_below-kind.ensures.drawn (step_add c.draw_below-kind.result c.draw_below-kind.new.self.state c.args.number s c.if-kind-lt14.false c.if-kind-lt15.true) (h s w)) c.add_amount.ensures

pub returns-else-kind-lt15 : goal.returns-else-kind-lt15
returns-else-kind-lt15 c = on_ok_weaker c.count.result (λ h s w. as_drawn c.count.new.section c.count.new.draws.state c.draw_below-kind.result c.draw_below-kind.new.self.state c.args.draws.now.state c.args.number s _ c.draw_below-kind.ensures.state c.draw_below-kind.ensures.drawn (step_count c.draw_below-kind.result c.draw_below-kind.new.self.state c.args.number s c.if-kind-lt15.false) (h s w)) c.count.ensures
