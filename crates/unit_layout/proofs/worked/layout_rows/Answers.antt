use Rattle.std.proofs.Common.{refl}
use Rattle.unit_layout.proofs.worked.layout_rows.Goals as goal

pub returns : goal.returns
returns c = record {
  one_processor = record { accepted = refl; layout = refl };
  six_share_two_allocations = record { accepted = refl; layout = refl };
  five_share_three_allocations = record { accepted = refl; layout = refl };
  two_groups = record { accepted = refl; layout = refl };
  no_processor = refl;
  nine_groups = refl;
  shared_pages = refl;
  the_first_pair = refl;
  above_the_space = refl;
  no_processor_of_nine = refl;
  no_processor_and_shared_pages = refl;
  nine_groups_share = refl;
  nine_groups_above_the_space = refl;
  shared_above_the_space = refl;
  first_of_four = refl;
}
