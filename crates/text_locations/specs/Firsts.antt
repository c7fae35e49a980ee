-- The first token of a location.
use Rattle.std.specs.Prelude.{◌≡◌, ◌⊎◌, false}
use Rattle.ir_locations.specs.declared.source.Source.{Source}
use Rattle.ir_locations.specs.declared.source.Source.TheVariants as sources
use Rattle.text_streams.specs.declared.stream.StateStream.{StateStream}
use Rattle.text_streams.specs.declared.faults.ParseFault.{ParseFault}
use Rattle.text_streams.specs.Positions.{left}
use Rattle.text_locations.specs.declared.firsts.First.{First}
use Rattle.text_locations.specs.declared.firsts.First.TheVariants as firsts
use Rattle.text_locations.specs.declared.tokens.Token.TheVariants.{Unknown, InMemory, Fused, Named, CallSite}
use Rattle.text_locations.specs.Faults.{IsMemory}
use Rattle.text_locations.specs.Tokens.{has_token, ReadsTokenHere, ReadsQuotedHere, MissesQuotedHere}

-- a source was read, which is here: `<in-memory>` or a name in quotes
abbrev pub ReadsSource : {S : Type 0} → StateStream S → Source → StateStream S → Type 0
ReadsSource old sources.InMemory new = ReadsTokenHere InMemory old new
ReadsSource old (sources.File name) new = ReadsQuotedHere old name new

-- the first token of such a location was read, which is here
abbrev pub ReadsFirst : {S : Type 0} → StateStream S → First → StateStream S → Type 0
ReadsFirst old firsts.Unknown new = ReadsTokenHere Unknown old new
ReadsFirst old (firsts.Source source) new = ReadsSource old source new
ReadsFirst old firsts.Fused new = ReadsTokenHere Fused old new
ReadsFirst old firsts.Named new = ReadsTokenHere Named old new
ReadsFirst old firsts.CallSite new = ReadsTokenHere CallSite old new

-- no location begins here, and that is a syntax fault here
pub record MissesFirst {S : Type 0} (old : StateStream S) (fault : ParseFault) : Type 0 where
  pub unknown : has_token Unknown (left old.position) ≡ false
  pub in_memory : has_token InMemory (left old.position) ≡ false
  pub fused : has_token Fused (left old.position) ≡ false
  pub named : has_token Named (left old.position) ≡ false
  pub call_site : has_token CallSite (left old.position) ≡ false
  pub quoted : MissesQuotedHere old fault

-- why none was read: no location begins here, or memory was refused
abbrev pub RefusesFirst : {S : Type 0} → StateStream S → ParseFault → Type 0
RefusesFirst old fault = IsMemory fault ⊎ MissesFirst old fault
