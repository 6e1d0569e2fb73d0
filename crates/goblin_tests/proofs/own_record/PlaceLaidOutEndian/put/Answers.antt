use Rattle.goblin_base.specs.FieldLaws.{with_fields-image}
use Rattle.goblin_tests.specs.OwnRecord.{place}
use Rattle.goblin_tests.proofs.own_record.PlaceLaidOutEndian.put.Goals as goal

pub returns : goal.returns
returns c = cc (with_fields-image c.args.order c.args.bytes.now 0 (place.fields c.args.self) c.requires)
