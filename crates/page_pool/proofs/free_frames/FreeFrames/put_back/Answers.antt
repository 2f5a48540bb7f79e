use Rattle.std.proofs.Common.{◌≡◌, ◌+◌, ◌∙◌, ap, sym, subst, arith, List, Bool, false}
use Rattle.vm_model.specs.Space.{is_among, put_by}
use Rattle.page_pool.specs.FrameList.{FrameList, lowest_first, AreCounted}
use Rattle.page_pool.proofs.FreeFrames.{freed_from, counted_freed, fewer_free, frame_list}
use Rattle.page_pool.proofs.free_frames.FreeFrames.put_back.Goals as goal

pub put-requires : goal.put-requires
put-requires c = let memory = ap (λ (f : FrameList). f.memory) c.self.view_is in let within = c.requires.memory in omega arith

pub overflow_add-self : goal.overflow_add-self
overflow_add-self c =
    let memory = ap (λ (f : FrameList). f.memory) c.self.view_is in
    let within = c.requires.memory in
    let taken : is_among (lowest_first c.self.inside.taken).numbers c.args.frame ≡ false = ap (λ (f : FrameList). is_among f.numbers c.args.frame) c.self.view_is ∙ c.requires.taken in
    let few = fewer_free c.self.inside.taken c.args.frame (omega arith) taken in
    let count = c.self.invariant.count in
    let fits = c.self.invariant.fits in
    omega arith

pub invariant_of-self : goal.invariant_of-self
invariant_of-self c =
    let memory = ap (λ (f : FrameList). f.memory) c.self.view_is in
    let within = c.requires.memory in
    let taken : is_among (lowest_first c.self.inside.taken).numbers c.args.frame ≡ false = ap (λ (f : FrameList). is_among f.numbers c.args.frame) c.self.view_is ∙ c.requires.taken in
    subst (λ (bits : List Bool). AreCounted bits (c.self.inside.free + 1) c.min-self-inside.result) (sym c.put.ensures)
    (counted_freed c.self.inside.taken c.self.inside.free c.self.inside.lowest (c.self.inside.free + 1) c.min-self-inside.result c.args.frame c.self.invariant (omega arith) taken (omega arith) (omega (arith, c.min-self-inside.ensures)) (omega (arith, c.min-self-inside.ensures)))

pub returns : goal.returns
returns c =
    let memory = ap (λ (f : FrameList). f.memory) c.self.view_is in
    let within = c.requires.memory in
    let taken : is_among (lowest_first c.self.inside.taken).numbers c.args.frame ≡ false = ap (λ (f : FrameList). is_among f.numbers c.args.frame) c.self.view_is ∙ c.requires.taken in
    freed_from c.self.inside.taken c.put.new.self c.args.frame (omega arith) taken c.put.ensures ∙ ap (λ (f : FrameList). frame_list (put_by (λ n. n) c.args.frame f.numbers) f.memory) c.self.view_is
