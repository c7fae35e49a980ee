use Rattle.std.proofs.Common.{ℕ, List, subst}
use Rattle.ir_characters.specs.Texts.{codes_of}
use Rattle.text_marking.specs.Taking.{TakesMarks}
use Rattle.outlined_texts.proofs.Fronts.{before_reads, section_inside}
use Rattle.outlined_texts.proofs.splitting.split_outlined.Goals as goal

pub front_of-requires : goal.front_of-requires
front_of-requires c =
    let found = c.find_section-section.ensures in
    section_inside (codes_of c.args.text) found.tokens _ found.reads found.begins

pub returns-clause-split : goal.returns-clause-split
returns-clause-split c =
    let found = c.find_section-section.ensures in
    record {
      tokens = found.tokens;
      reads = found.reads;
      section = found.begins;
      before = before_reads (codes_of c.args.text) found.tokens _ found.reads found.begins;
      taken = subst (λ (cs : List ℕ). TakesMarks cs c.in_ok-taken.taken) c.front_of.ensures c.in_ok-taken.ensures.taken;
    }
