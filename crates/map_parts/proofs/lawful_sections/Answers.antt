use Rattle.map_parts.proofs.SectionRunProofs.{stays_lawful, finds_together}
use Rattle.map_parts.proofs.lawful_sections.Goals as goal

pub returns : goal.returns
returns g c = record {
  stays = stays_lawful g.S.LawfulSections.wanted g.S.LawfulSections.moves g.S.LawfulSections.after g.S.LawfulSections.lawful g.S.LawfulSections.keeps;
  together = finds_together g.S.LawfulSections.wanted g.S.LawfulSections.moves g.S.LawfulSections.after g.S.LawfulSections.lawful g.S.LawfulSections.keeps;
}
