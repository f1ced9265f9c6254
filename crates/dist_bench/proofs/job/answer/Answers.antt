use Rattle.dist_bench.proofs.job.answer.Goals as goal

pub returns-in-AskEssentialPackages : goal.returns-in-AskEssentialPackages
returns-in-AskEssentialPackages c = rw (c.in-AskEssentialPackages.is, ← c.as_bytes-bytes.ensures.value) c.asked_text.ensures

pub returns-in-AskLastPackage : goal.returns-in-AskLastPackage
returns-in-AskLastPackage c = rw (c.in-AskLastPackage.is, ← c.as_bytes-bytes.ensures.value) c.last_text.ensures

pub returns-in-AskPackages : goal.returns-in-AskPackages
returns-in-AskPackages c = rw (c.in-AskPackages.is, ← c.as_bytes-bytes.ensures.value) c.asked_text-in-AskPackages.ensures

pub returns-in-CountClasses : goal.returns-in-CountClasses
returns-in-CountClasses c = rw (c.in-CountClasses.is, ← c.as_bytes-bytes.ensures.value) c.classes_text.ensures

pub returns-in-CountClauses : goal.returns-in-CountClauses
returns-in-CountClauses c = rw (c.in-CountClauses.is, ← c.as_bytes-bytes.ensures.value) c.clauses_text.ensures

pub returns-in-CountFutureClauses : goal.returns-in-CountFutureClauses
returns-in-CountFutureClauses c = rw (c.in-CountFutureClauses.is, ← c.as_bytes-bytes.ensures.value) c.clauses_text-in-CountFutureClauses.ensures

pub returns-in-CountFutureVariables : goal.returns-in-CountFutureVariables
returns-in-CountFutureVariables c = rw (c.in-CountFutureVariables.is, ← c.as_bytes-bytes.ensures.value) c.variables_text.ensures

pub returns-in-CountPackages : goal.returns-in-CountPackages
returns-in-CountPackages c = rw (c.in-CountPackages.is, ← c.as_bytes-bytes.ensures.value) c.packages_text.ensures

pub returns-in-ExplainPackages : goal.returns-in-ExplainPackages
returns-in-ExplainPackages c = rw (c.in-ExplainPackages.is, ← c.as_bytes-bytes.ensures.value) c.explained_text.ensures
