use Rattle.dist_generate.proofs.Archives.{archive, over, short}
use Rattle.dist_generate.proofs.laws.generated_texts_are_archives.Goals as goal

pub returns-clause-archive : goal.returns-clause-archive
returns-clause-archive c size seed limit few within = archive size seed few c.relations_take_bytes.ensures limit within

pub returns-clause-too_many : goal.returns-clause-too_many
returns-clause-too_many c size seed limit few past = over size seed few limit past

pub returns-clause-bytes : goal.returns-clause-bytes
returns-clause-bytes c size seed few = short size seed few
