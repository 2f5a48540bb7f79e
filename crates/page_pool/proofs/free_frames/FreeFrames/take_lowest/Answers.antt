use Rattle.std.proofs.Common.{◌≡◌, ◌<◌, ◌+◌, ◌-◌, ◌∙◌, ap, sym, subst, arith, length, List, Bool, false, ℕ}
use Rattle.page_pool.specs.FrameList.{FrameList, lowest_first, AreCounted}
use Rattle.chunk_bitmaps.specs.Bitmap.{IsNextBit}
use Rattle.page_pool.proofs.FreeFrames.{IsLowest, is_lowest, taken_from, counted_taken}
use Rattle.page_pool.proofs.free_frames.FreeFrames.take_lowest.Goals as goal

-- the bit that the search finds is that of the lowest free frame
found : (bits : List Bool) (now : FrameList) (free lowest end frame : ℕ) → lowest_first bits ≡ now → AreCounted bits free lowest → end ≡ length bits → IsNextBit bits false lowest end frame → 0 < length now.numbers → IsLowest bits frame
found bits now free lowest end frame view counted all next some =
    is_lowest bits free lowest frame counted (subst (λ n. IsNextBit bits false lowest n frame) all next) (let same = ap (λ (f : FrameList). length f.numbers) view in omega arith)

pub find_next-frame-requires : goal.find_next-frame-requires
find_next-frame-requires c = let within = c.self.invariant.within in let all = c.len.ensures.len in record { order = omega arith; within = omega arith }

pub put-requires : goal.put-requires
put-requires c =
    let is = found c.self.inside.taken c.args.self.now c.self.inside.free c.self.inside.lowest c.len.result c.find_next-frame.result c.self.view_is c.self.invariant c.len.ensures.len c.find_next-frame.ensures c.requires in
    let within = is.within in omega arith

pub overflow_sub-self : goal.overflow_sub-self
overflow_sub-self c =
    let some = c.requires in
    let count = c.self.invariant.count in
    let same = ap (λ (f : FrameList). length f.numbers) c.self.view_is in
    omega arith

pub overflow_add-self : goal.overflow_add-self
overflow_add-self c = let within = c.find_next-frame.ensures.within in let small = c.len.ensures.small in omega arith

pub invariant_of-self : goal.invariant_of-self
invariant_of-self c =
    let is = found c.self.inside.taken c.args.self.now c.self.inside.free c.self.inside.lowest c.len.result c.find_next-frame.result c.self.view_is c.self.invariant c.len.ensures.len c.find_next-frame.ensures c.requires in
    let some = c.requires in
    let count = c.self.invariant.count in
    let same = ap (λ (f : FrameList). length f.numbers) c.self.view_is in
    subst (λ (bits : List Bool). AreCounted bits (c.self.inside.free - 1) (c.find_next-frame.result + 1)) (sym c.put.ensures)
    (counted_taken c.self.inside.taken c.self.inside.free c.self.inside.lowest (c.self.inside.free - 1) c.find_next-frame.result c.self.invariant is (omega arith))

pub returns : goal.returns
returns c =
    let is = found c.self.inside.taken c.args.self.now c.self.inside.free c.self.inside.lowest c.len.result c.find_next-frame.result c.self.view_is c.self.invariant c.len.ensures.len c.find_next-frame.ensures c.requires in
    sym c.self.view_is ∙ taken_from c.self.inside.taken c.put.new.self c.find_next-frame.result is c.put.ensures
