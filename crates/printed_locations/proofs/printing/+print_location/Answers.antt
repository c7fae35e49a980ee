use Rattle.std.proofs.Common.{◌≡◌, ◌∙◌, ◌++◌, ◌∷◌, ◌+◌, [], true, false, refl, sym, ap, subst, ℕ, List, drop, chars, encode_utf8_all}
use Rattle.std.proofs.lemmas.List.{drop_all}
use Rattle.ir_print.specs.Layout.{in_quotes}
use Rattle.ir_locations.specs.declared.location.Location.{Location}
use Rattle.text_writers.specs.declared.state.State.{State}
use Rattle.printed_locations.specs.Printed.{AddsTokens}
use Rattle.printed_locations.specs.Tokens.{tokens_of}
use Rattle.printed_locations.proofs.TextLemmas.{drop_more, left_of, member_added, list_ended, place_printed, named_printed, call_site_printed, fused_printed}
use Rattle.printed_locations.proofs.printing.+print_location.Goals as goal

pub loop-member-preserved : goal.loop-member-preserved
loop-member-preserved g t c =
    let P : g.row.A.Denot → List ℕ → Type 0 = λ a. g.A.Printable.prints a c.args.context.now c.args.state.now in
    let written = g.W.TextWriter.written in
    let xs = c.deref-member-items.result.now in
    let i = c.loop-member.member-index in
    let x = c.member-item.result in
    let inner : AddsTokens P (written c.separate.new.out) (tokens_of x) (written c.print_location.new.out) =
    subst (λ (s : State). AddsTokens (λ a. g.A.Printable.prints a c.args.context.now s) (written c.separate.new.out) (tokens_of x) (written c.print_location.new.out))
    c.loop-member.invariant.0 c.in_ok-print_location-in-Fused.ensures.text in (
      c.in_ok-print_location-in-Fused.ensures.state ∙ c.loop-member.invariant.0,
      λ new h. c.loop-member.invariant.1 new
          (subst (λ (ls : List (Location g.row.A.Denot)). AddsTokens P (written c.loop-member.out) (left_of P c.loop-member.is_first ls) new)
          (sym (drop_more xs i x c.loop-member-test.true c.member-item.is))
          (member_added P c.loop-member.is_first x (drop (i + 1) xs) (written c.loop-member.out) (written c.separate.new.out) (written c.print_location.new.out) new
          c.in_ok-separate-in-Fused.ensures inner h)),
    )

pub returns-in_ok-print_labelled-in-SrcPos-2-clause-text : goal.returns-in_ok-print_labelled-in-SrcPos-2-clause-text
returns-in_ok-print_labelled-in-SrcPos-2-clause-text g t c =
    let P : g.row.A.Denot → List ℕ → Type 0 = λ a. g.A.Printable.prints a c.args.context.now c.args.state.now in
    let written = g.W.TextWriter.written in
    rw c.in-SrcPos.is (place_printed P c.in-SrcPos.source c.in-SrcPos.line c.in-SrcPos.column (written c.args.out.now) (written c.print_source.new.out)
    (written c.print_labelled.new.out) (written c.print_labelled-in-SrcPos.new.out) c.in_ok-print_source-in-SrcPos.ensures
    c.in_ok-print_labelled-in-SrcPos.ensures c.in_ok-print_labelled-in-SrcPos-2.ensures)

pub returns-in_ok-write_text-in-Fused-3-clause-text : goal.returns-in_ok-write_text-in-Fused-3-clause-text
returns-in_ok-write_text-in-Fused-3-clause-text g t c =
    let P : g.row.A.Denot → List ℕ → Type 0 = λ a. g.A.Printable.prints a c.args.context.now c.args.state.now in
    let written = g.W.TextWriter.written in
    let new = written c.write_text-in-Fused-2.new.self in
    let xs = c.deref-member-items.result.now in
    let end : AddsTokens P (written c.loop-member.out) (left_of P c.loop-member.is_first (drop c.loop-member.member-index xs)) new =
    subst (λ (ls : List (Location g.row.A.Denot)). AddsTokens P (written c.loop-member.out) (left_of P c.loop-member.is_first ls) new)
    (sym (drop_all c.loop-member.member-index xs c.loop-member-test.false))
    (list_ended P c.loop-member.is_first (written c.loop-member.out) new c.in_ok-write_text-in-Fused-3.ensures) in
    let inner : AddsTokens P (written c.write_text-in-Fused.new.self) (left_of P true c.in-Fused.locations.items) new =
    subst (λ (ls : List (Location g.row.A.Denot)). AddsTokens P (written c.write_text-in-Fused.new.self) (left_of P true ls) new)
    c.deref-member-items.ensures.value (c.loop-member.invariant.1 new end) in
    rw c.in-Fused.is (fused_printed P c.in-Fused.metadata c.in-Fused.locations (written c.args.out.now) (written c.write_text.new.self)
    (written c.print_metadata.new.out) (written c.write_text-in-Fused.new.self) new c.in_ok-write_text-in-Fused.ensures
    c.in_ok-print_metadata-in-Fused.ensures.text c.in_ok-write_text-in-Fused-2.ensures inner)

pub returns-in_ok-write_text-in-Named-3-clause-text : goal.returns-in_ok-write_text-in-Named-3-clause-text
returns-in_ok-write_text-in-Named-3-clause-text g t c =
    let P : g.row.A.Denot → List ℕ → Type 0 = λ a. g.A.Printable.prints a c.args.context.now c.args.state.now in
    let written = g.W.TextWriter.written in
    let name = c.in_ok-print_quoted-in-Named.ensures ∙ ap (λ bytes. written c.write_text-in-Named.new.self ++ encode_utf8_all (in_quotes (chars bytes))) c.as_str.ensures.value in
    rw c.in-Named.is (named_printed P c.in-Named.name c.in-Named.child (written c.args.out.now) (written c.write_text-in-Named.new.self)
    (written c.print_quoted.new.out) (written c.write_text-in-Named-2.new.self) (written c.print_location-in-Named.new.out)
    (written c.write_text-in-Named-3.new.self) c.in_ok-write_text-in-Named.ensures name c.in_ok-write_text-in-Named-2.ensures
    (subst (λ (l : Location g.row.A.Denot). AddsTokens P (written c.write_text-in-Named-2.new.self) (tokens_of l) (written c.print_location-in-Named.new.out))
    c.deref.ensures c.in_ok-print_location-in-Named.ensures.text) c.in_ok-write_text-in-Named-3.ensures)

pub returns-in_ok-write_text-in-CallSite-3-clause-text : goal.returns-in_ok-write_text-in-CallSite-3-clause-text
returns-in_ok-write_text-in-CallSite-3-clause-text g t c =
    let P : g.row.A.Denot → List ℕ → Type 0 = λ a. g.A.Printable.prints a c.args.context.now c.args.state.now in
    let written = g.W.TextWriter.written in
    let a = written c.write_text-in-CallSite.new.self in
    let b = written c.print_location-in-CallSite.new.out in
    let d = written c.write_text-in-CallSite-2.new.self in
    let e = written c.print_location-in-CallSite-2.new.out in
    let callee : AddsTokens P a (tokens_of c.in-CallSite.callee.value) b =
    subst (λ (l : Location g.row.A.Denot). AddsTokens P a (tokens_of l) b) c.deref-in-CallSite.ensures c.in_ok-print_location-in-CallSite.ensures.text in
    let caller : AddsTokens P d (tokens_of c.in-CallSite.caller.value) e =
    subst (λ (l : Location g.row.A.Denot). AddsTokens P d (tokens_of l) e) c.deref-in-CallSite-2.ensures
    (subst (λ (s : State). AddsTokens (λ a. g.A.Printable.prints a c.args.context.now s) d (tokens_of c.deref-in-CallSite-2.result.now) e)
    c.in_ok-print_location-in-CallSite.ensures.state c.in_ok-print_location-in-CallSite-2.ensures.text) in
    rw c.in-CallSite.is (call_site_printed P c.in-CallSite.callee c.in-CallSite.caller (written c.args.out.now) a b d e (written c.write_text-in-CallSite-3.new.self)
    c.in_ok-write_text-in-CallSite.ensures callee c.in_ok-write_text-in-CallSite-2.ensures caller c.in_ok-write_text-in-CallSite-3.ensures)
