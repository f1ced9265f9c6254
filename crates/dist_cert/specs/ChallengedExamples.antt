-- Worked example: a certificate of kind challenged is accepted as a whole. The archive has `libx` of version 1, and
-- `p`, which depends on `libx (<< 2)`. Of libx's later versions the classes are `>> 1, << 2`, `= 2` and `>> 2`, of p's
-- there is one.
use Rattle.std.specs.Prelude.{ℕ, ◌+◌, ◌-◌, ◌≤◌, true, false, List, [], ◌∷◌, ◌++◌, codes, slice_index_or}
use Rattle.dist_outside.specs.declared.limits.Limits.{Limits}
use Rattle.dist_clause.specs.Formula.{Literal, literal, IsModel}
use Rattle.dist_cert.specs.declared.records.CertKind.TheVariants as kinds
use Rattle.dist_cert.specs.declared.records.Claim.{Claim}
use Rattle.dist_cert.specs.declared.records.Claim.TheVariants as claims
use Rattle.dist_cert.specs.declared.records.Header.{Header}
use Rattle.dist_cert.specs.Rising.{is_among}
use Rattle.dist_cert.specs.Subject.{Matter}
use Rattle.dist_cert.specs.Accepted.{Accepted}
use Rattle.dist_cert.specs.TextExamples.{ended_lines}

-- ---- the space of its futures: variable 1 is Now; 2 and 3 are libx and p as they are; 4, 6 and 8 say that libx is at
-- its first, second and third class, and 5, 7 and 9 that it is installed so; 10 and 11 say the same of p and its class

-- at least one of two literals is false
abbrev pub not_both : ℕ → ℕ → List Literal
not_both v w = literal v false ∷ literal w false ∷ []

-- one variable is true only with the other
abbrev pub only_with : ℕ → ℕ → List Literal
only_with v w = literal v false ∷ literal w true ∷ []

-- libx is at one class at most
abbrev pub one_class : List (List Literal)
one_class = not_both 4 6 ∷ not_both 4 8 ∷ not_both 6 8 ∷ []

-- a package is installed as it is where its cluster is at no class, and anew where it is at that class
abbrev pub moves : List (List Literal)
moves = not_both 2 4 ∷ only_with 5 4 ∷ not_both 2 6 ∷ only_with 7 6 ∷ not_both 2 8 ∷ only_with 9 8 ∷ not_both 3 10
    ∷ only_with 11 10 ∷ []

-- p needs libx as it is or at its first class
abbrev pub needs : List (List Literal)
needs = (literal 3 false ∷ literal 2 true ∷ literal 5 true ∷ []) ∷ []

-- now, no cluster is at a class
abbrev pub stays : List (List Literal)
stays = not_both 1 4 ∷ not_both 1 6 ∷ not_both 1 8 ∷ not_both 1 10 ∷ []

-- the number at a place, by two numbers from 1
abbrev pub number_at : List (List ℕ) → ℕ → ℕ → ℕ
number_at rows row place = slice_index_or (slice_index_or rows (row - 1) []) (place - 1) 0

-- A set of variables stands for a future where it meets all clauses but those of needs, and is healthy where it meets
-- those.
abbrev pub space : Matter
space = record {
  packages = 2;
  variables = 11;
  inputs = one_class ++ moves ++ needs ++ stays;
  clusters = record { members = 1 ∷ []; classes = 3 } ∷ record { members = 2 ∷ []; classes = 1 } ∷ [];
  present = λ p. p + 1;
  new = λ p class. number_at ((5 ∷ 7 ∷ 9 ∷ []) ∷ (11 ∷ []) ∷ []) p class;
  at = λ cluster class. number_at ((4 ∷ 6 ∷ 8 ∷ []) ∷ (10 ∷ []) ∷ []) cluster class;
  IsFuture = λ members. IsModel (is_among members) (one_class ++ moves ++ stays);
  IsHealthy = λ members. IsModel (is_among members) needs;
}

abbrev pub header : Header
header = record {
  kind = kinds.Challenged;
  limit = 10000;
  packages = 2;
  variables = 11;
  clauses = 16;
  essential = false;
}

-- ---- the certificate

abbrev pub fourteen_lines : List ℕ
fourteen_lines = ended_lines (
    codes "distfuture-certificate 1 challenged plain 10000 2 11 16"
    ∷ codes "q 1 2"
    ∷ codes "m 1 2"
    ∷ codes "c 1 1 0 0"
    ∷ codes "q 1 3"
    ∷ codes "m 1 2 3"
    ∷ codes "q 3 4"
    ∷ codes "m 3 4 5"
    ∷ codes "q 3 6"
    ∷ codes "f 6 12 5 1"
    ∷ codes "q 3 8"
    ∷ codes "f 8 12 5 2"
    ∷ codes "c 2 2 3 0 1 2 1 3 0"
    ∷ codes "e"
    ∷ []
    )

-- libx is challenged by nothing, and p by libx at its second and third class: `= 2` and `>> 2`
abbrev pub by_two_classes : List Claim
by_two_classes = claims.Challenged [] [] ∷ claims.Challenged ((0, 1) ∷ (0, 2) ∷ []) [] ∷ []

-- It is accepted, where a line may have as many bytes as its longest one. The law `examples_are_accepted` says that it
-- is so.
abbrev pub ChallengedIsAccepted : Type 0
ChallengedIsAccepted = (limits : Limits) → 56 ≤ limits.record_line
    → Accepted space limits fourteen_lines header by_two_classes
