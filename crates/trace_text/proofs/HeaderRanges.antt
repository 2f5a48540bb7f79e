-- The numbers of a trace's header are in their ranges.
use Rattle.std.proofs.Common.{◌≡◌, ℕ, ◌<◌, ◌≤◌, true, List, [], ◌∷◌, refl, sym, subst, arith}
use Rattle.std.proofs.lemmas.Bool.{and_parts, eqb-true}
use Rattle.std.proofs.lemmas.Bool.Decides.{nat_tests}
use Rattle.unit_layout.specs.Config.{setup_of}
use Rattle.unit_layout.specs.NumberRanges.{IsInRange}
use Rattle.unit_layout.proofs.StandingLayouts.{layouts_stand}
use Rattle.trace_text.specs.SpelledLines.{Line, Space, Frames, Lazy, Blocks, Units, GroupOf, Callers}
use Rattle.trace_text.specs.Reading.{Reading, unread}
use Rattle.trace_text.specs.ToldTraces.{config_of, layout_spec}
use Rattle.trace_text.specs.Grammar.{may_stand, follows, rank_of, all_stand, read, read_all, IsTraceOf}
use Rattle.trace_text.specs.GrammarLaws.{TraceGivesSetup}
use Rattle.trace_text.proofs.HeaderLines.{AreBlockSizes, block_sizes, in_range, unit_sizes}
use Rattle.trace_text.proofs.LayoutRanges.{place_and_rule, next_group, one_more, ungrouped_layout}

-- what holds after each line: the space has pages behind its line, and no group stands before those of groups
pub record HasRanges (r : Reading) : Type 0 where
  pub space : 2 ≤ r.rank → (1 ≤ r.header.space) × (r.header.space ≤ 1048576)
  pub frames : r.header.frames ≤ 8192
  pub lazy : r.header.lazy ≤ 1048576
  pub block : AreBlockSizes r.header.block_pages r.header.part_limit
  pub layout : IsInRange (layout_spec r.header)
  pub ungrouped : r.rank < 7 → r.header.groups ≡ []
  pub callers : (1 ≤ r.header.callers) × (r.header.callers ≤ 16)

not_before : (last rank : ℕ) → follows last rank ≡ true → last ≤ rank
not_before last rank h = grind (arith, nat_tests)

behind_space : (last rank : ℕ) → follows last rank ≡ true → 2 < rank → 2 ≤ last
behind_space last rank h low = grind (arith, nat_tests)

-- where a line of a later rank may stand, its place lies behind the space line, and no group stands before those of groups
later_space : (r : Reading) (l : Line) → may_stand r l ≡ true → HasRanges r → 2 < rank_of l → (1 ≤ r.header.space) × (r.header.space ≤ 1048576)
later_space r l h has low = has.space (behind_space r.rank (rank_of l) (place_and_rule r l h).1 low)

no_groups : (r : Reading) (l : Line) → may_stand r l ≡ true → HasRanges r → rank_of l < 7 → r.header.groups ≡ []
no_groups r l h has early = let later = not_before r.rank (rank_of l) (place_and_rule r l h).1 in has.ungrouped (omega arith)

line_kept : (r : Reading) (l : Line) → may_stand r l ≡ true → HasRanges r → HasRanges (read r l)
line_kept r (Space pages) h has = record {
  space = λ low. in_range 1 1048576 pages (place_and_rule r (Space pages) h).2;
  frames = has.frames;
  lazy = has.lazy;
  block = has.block;
  layout = has.layout;
  ungrouped = no_groups r (Space pages) h has;
  callers = has.callers;
}
line_kept r (Frames frames) h has = record {
  space = λ low. later_space r (Frames frames) h has (omega arith);
  frames = (in_range 0 8192 frames (place_and_rule r (Frames frames) h).2).1;
  lazy = has.lazy;
  block = has.block;
  layout = has.layout;
  ungrouped = no_groups r (Frames frames) h has;
  callers = has.callers;
}
line_kept r (Lazy pages) h has = record {
  space = λ low. later_space r (Lazy pages) h has (omega arith);
  frames = has.frames;
  lazy = (in_range 0 1048576 pages (place_and_rule r (Lazy pages) h).2).1;
  block = has.block;
  layout = has.layout;
  ungrouped = no_groups r (Lazy pages) h has;
  callers = has.callers;
}
line_kept r (Blocks pages part_limit) h has = record {
  space = λ low. later_space r (Blocks pages part_limit) h has (omega arith);
  frames = has.frames;
  lazy = has.lazy;
  block = block_sizes r pages part_limit (place_and_rule r (Blocks pages part_limit) h).2;
  layout = has.layout;
  ungrouped = no_groups r (Blocks pages part_limit) h has;
  callers = has.callers;
}
line_kept r (Units pages atom) h has = record {
  space = λ low. later_space r (Units pages atom) h has (omega arith);
  frames = has.frames;
  lazy = has.lazy;
  block = has.block;
  layout = ungrouped_layout pages atom r.header.groups (no_groups r (Units pages atom) h has (omega arith)) (unit_sizes r pages atom (place_and_rule r (Units pages atom) h).2);
  ungrouped = no_groups r (Units pages atom) h has;
  callers = has.callers;
}
line_kept r (GroupOf cpus offset) h has = record {
  space = λ low. later_space r (GroupOf cpus offset) h has (omega arith);
  frames = has.frames;
  lazy = has.lazy;
  block = has.block;
  layout = one_more r.header.unit_pages r.header.atom r.header.groups (record { cpus = cpus; offset = offset }) has.layout (next_group r cpus offset h);
  ungrouped = λ early. absurd (omega arith);
  callers = has.callers;
}
line_kept r (Callers callers) h has = record {
  space = λ low. later_space r (Callers callers) h has (omega arith);
  frames = has.frames;
  lazy = has.lazy;
  block = has.block;
  layout = has.layout;
  ungrouped = no_groups r (Callers callers) h has;
  callers = in_range 1 16 callers (place_and_rule r (Callers callers) h).2;
}
line_kept r l h has = record {
  space = λ low. later_space r l h has (omega arith);
  frames = has.frames;
  lazy = has.lazy;
  block = has.block;
  layout = has.layout;
  ungrouped = no_groups r l h has;
  callers = has.callers;
}

lines_kept : (r : Reading) (lines : List Line) → all_stand r lines ≡ true → HasRanges r → HasRanges (read_all r lines)
lines_kept r [] h has = has
lines_kept r (l ∷ lines) h has =
    let parts = and_parts (may_stand r l) (all_stand (read r l) lines) h in
    lines_kept (read r l) lines parts.1 (line_kept r l parts.0 has)

at_first : HasRanges unread
at_first = record {
  space = λ low. absurd (omega arith);
  frames = omega arith;
  lazy = omega arith;
  block = record { low = omega arith; high = omega arith; block = (7, refl); part = (6, refl); part_high = omega arith };
  layout = ungrouped_layout 8 1 [] refl (record { low = omega arith; high = omega arith; power = (0, refl); small = omega arith });
  ungrouped = λ early. refl;
  callers = (omega arith, omega arith);
}

-- a trace's header is in its ranges
pub header_in_range : (bytes : List ℕ) (r : Reading) → IsTraceOf bytes r → HasRanges r
header_in_range bytes r trace = subst HasRanges (sym trace.tells) (lines_kept unread trace.lines trace.stand at_first)

-- and gives a machine, where its layout stands
pub trace_gives_setup : TraceGivesSetup
trace_gives_setup bytes r trace none =
    let has = header_in_range bytes r trace in
    let ended : r.rank ≡ 12 = eqb-true r.rank 12 trace.ended in
    let space = has.space (omega arith) in
    let laid = layouts_stand (layout_spec r.header) (setup_of (config_of r.header)) has.layout none in
    record {
      space_low = space.0;
      space_high = space.1;
      frames = has.frames;
      lazy = has.lazy;
      block_low = has.block.low;
      block_high = has.block.high;
      block = has.block.block;
      part = has.block.part;
      part_high = has.block.part_high;
      unit_low = laid.unit_low;
      unit_high = laid.unit_high;
      atom = laid.atom;
      atom_high = laid.atom_high;
      groups = laid.groups;
      units = laid.units;
    }
