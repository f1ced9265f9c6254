-- The stated limits, and limits that are no higher.
use Rattle.std.specs.Prelude.{◌≤◌}
use Rattle.dist_base.specs.declared.TheConstants.{MAX_BYTES, MAX_STANZAS, MAX_VARIABLES, MAX_CLAUSES, MAX_LITERALS}
use Rattle.dist_base.specs.declared.TheConstants.{MAX_LINES, MAX_LINE_LITERALS, MAX_CERTIFICATE, MAX_RECORD_LINE}
use Rattle.dist_outside.specs.declared.limits.Limits.{Limits}

-- the stated limits
abbrev pub stated_limits : Limits
stated_limits = record {
  bytes = MAX_BYTES;
  stanzas = MAX_STANZAS;
  variables = MAX_VARIABLES;
  clauses = MAX_CLAUSES;
  literals = MAX_LITERALS;
  lines = MAX_LINES;
  line_literals = MAX_LINE_LITERALS;
  certificate = MAX_CERTIFICATE;
  record_line = MAX_RECORD_LINE;
}

-- the limits are at most the stated ones
pub record IsWithinStated (limits : Limits) : Type 0 where
  pub bytes : limits.bytes ≤ MAX_BYTES
  pub stanzas : limits.stanzas ≤ MAX_STANZAS
  pub variables : limits.variables ≤ MAX_VARIABLES
  pub clauses : limits.clauses ≤ MAX_CLAUSES
  pub literals : limits.literals ≤ MAX_LITERALS
  pub lines : limits.lines ≤ MAX_LINES
  pub line_literals : limits.line_literals ≤ MAX_LINE_LITERALS
  pub certificate : limits.certificate ≤ MAX_CERTIFICATE
  pub record_line : limits.record_line ≤ MAX_RECORD_LINE
