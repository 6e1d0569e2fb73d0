use Rattle.std.proofs.Common.{refl}
use Rattle.goblin_base.specs.FieldLaws.{with_fields-image}
use Rattle.goblin_base.specs.Fields.{image_of_fields}
use Rattle.goblin_base.specs.RecordLaws.{Writes-ok}
use Rattle.goblin_tests.specs.OwnRecord.{port}
use Rattle.goblin_tests.proofs.own_record.PortTryIntoCtxEndian.try_into_ctx.Goals as goal

pub returns : goal.returns
returns c =
    let put = with_fields-image c.args.order c.args.bytes.now 0 (port.fields c.args.self)
    (c.in_ok-room.ensures.fits.0 refl) in
    Writes-ok 2 2 (image_of_fields c.args.order (port.fields c.args.self)) c.args.bytes.now c.put_u16.new.bytes tt refl
    c.in_ok-room.ensures.value (cc put)
