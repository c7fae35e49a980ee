-- Payloads of what a start shows, which leads somewhere as long as more is made.
use Rattle.std.proofs.Common.{◌≡◌, Some, option_map, sym, ap, ◌∙◌}
use Rattle.ir_program.specs.Program.{Program, operation_at, block_at}
use Rattle.text_dialect.specs.Seen.{Seen, seen, seen_operation, seen_block}
use Rattle.text_frames.specs.building.Kept.{KeepsAllSeen, KeepsPayloads, KeepsPayloadsOf, operation_payload, block_payload}
use Rattle.text_frames.proofs.BuildingLemmas.Opened.{ContextOf}
use Rattle.text_frames.proofs.BuildingLemmas.Options.{is_there, there, mapped_there, unmapped_there}

module _ {K A T O B : Type 0} (start : Seen K A T) where
  -- of two calls, where both keep them
  pub payloads_of_both : (c d e : Program O B) → KeepsPayloadsOf start c d → KeepsPayloadsOf start d e → KeepsPayloadsOf start c e
  payloads_of_both c d e f g = record {
    operations = λ p h. g.operations p h ∙ f.operations p h;
    blocks = λ b h. g.blocks b h ∙ f.blocks b h;
  }

module _ {D TypeKind AttrKind TypeBody Saved Location OpKind Attr TypeKey : Type 0} where
  -- what the start shows is there still, and keeps its payload where all do
  pub payloads_shown : (start : Seen OpKind Attr TypeKey) (c d : ContextOf D TypeKind AttrKind TypeBody Saved Location OpKind Attr TypeKey) → KeepsAllSeen start (seen c) → KeepsPayloads c.program d.program → KeepsPayloadsOf start c.program d.program
  payloads_shown start c d keeps h = record {
    operations = λ p shown.
        let was = is_there (start.operation p) shown in
        let now = is_there (operation_at c.program p) (unmapped_there seen_operation (operation_at c.program p) (there _ was.0 (keeps.operations p was.0 was.1))) in
        let e : operation_payload c.program p ≡ Some now.0.payload = ap (option_map (λ v. v.payload)) now.1 in
        h.operations p now.0.payload e ∙ sym e;
    blocks = λ b shown.
        let was = is_there (start.block b) shown in
        let now = is_there (block_at c.program b) (unmapped_there seen_block (block_at c.program b) (there _ was.0 (keeps.blocks b was.0 was.1))) in
        let e : block_payload c.program b ≡ Some now.0.payload = ap (option_map (λ v. v.payload)) now.1 in
        h.blocks b now.0.payload e ∙ sym e;
  }

  -- payloads are kept since a start where those of all that it shows are kept then
  pub payloads_since : (start c d : ContextOf D TypeKind AttrKind TypeBody Saved Location OpKind Attr TypeKey) → KeepsPayloads start.program c.program → KeepsPayloadsOf (seen start) c.program d.program → KeepsPayloads start.program d.program
  payloads_since start c d f g = record {
    operations = λ p o e. g.operations p (mapped_there seen_operation (operation_at start.program p)
        (unmapped_there (λ v. v.payload) (operation_at start.program p) (there (operation_payload start.program p) o e))) ∙ f.operations p o e;
    blocks = λ b x e. g.blocks b (mapped_there seen_block (block_at start.program b)
        (unmapped_there (λ v. v.payload) (block_at start.program b) (there (block_payload start.program b) x e))) ∙ f.blocks b x e;
  }
