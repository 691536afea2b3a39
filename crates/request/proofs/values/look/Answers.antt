-- What a value of each tag says, by the shape that the table gives the tag.
use Rattle.request.specs.Session.{shape_of, look_as, one_of}
use borrow.Author.Tests.{ne_eqb}
use Rattle.request.proofs.values.look.Goals as goal

pub returns-in-1 : goal.returns-in-1
unfolding shape_of one_of
returns-in-1 c = rw c.in-1.is c.text.ensures

pub returns-in-11 : goal.returns-in-11
unfolding shape_of one_of
returns-in-11 c = rw c.in-11.is c.text-in-11.ensures

pub returns-in-41 : goal.returns-in-41
unfolding shape_of one_of
returns-in-41 c = rw c.in-41.is c.text-in-41.ensures

pub returns-in-55 : goal.returns-in-55
unfolding shape_of one_of
returns-in-55 c = rw c.in-55.is c.code.ensures

pub returns-in-38 : goal.returns-in-38
unfolding shape_of one_of
returns-in-38 c = rw c.in-38.is c.amount.ensures

pub returns-in-110 : goal.returns-in-110
unfolding shape_of one_of
returns-in-110 c = rw c.in-110.is c.amount-in-110.ensures

pub returns-in-109 : goal.returns-in-109
unfolding shape_of one_of
returns-in-109 c = rw c.in-109.is c.amount-in-109.ensures

pub returns-in-44 : goal.returns-in-44
unfolding shape_of one_of
returns-in-44 c = rw c.in-44.is c.level.ensures

pub returns-in-60 : goal.returns-in-60
unfolding shape_of one_of
returns-in-60 c = rw c.in-60.is c.time.ensures

pub returns-in-21 : goal.returns-in-21
unfolding shape_of one_of
returns-in-21 c = rw c.in-21.is c.among.ensures

pub returns-in-40 : goal.returns-in-40
unfolding shape_of one_of
returns-in-40 c = rw c.in-40.is c.among-in-40.ensures

pub returns-in-47 : goal.returns-in-47
unfolding shape_of one_of
returns-in-47 c = rw c.in-47.is c.among-in-47.ensures

pub returns-in-54 : goal.returns-in-54
unfolding shape_of one_of
returns-in-54 c = rw c.in-54.is c.side.ensures

pub returns-in-59 : goal.returns-in-59
unfolding shape_of one_of
returns-in-59 c = rw c.in-59.is c.among-in-59.ensures

pub returns-in-8060 : goal.returns-in-8060
unfolding shape_of one_of
returns-in-8060 c = rw c.in-8060.is c.among-in-8060.ensures

pub returns-in-544 : goal.returns-in-544
unfolding shape_of one_of
returns-in-544 c = rw c.in-544.is c.cash.ensures

pub returns-in-8214 : goal.returns-in-8214
unfolding shape_of one_of
returns-in-8214 c = rw c.in-8214.is c.margin.ensures

pub returns-in_default : goal.returns-in_default
unfolding shape_of look_as one_of
returns-in_default c =
    let t = c.args.tag in
    rw (
      ne_eqb t 1 c.in_default.in_default-own.rest.0.0.0.0.0.0.0.0.0.0.0.0.0.0.0.0.1,
      ne_eqb t 11 c.in_default.in_default-own.rest.0.0.0.0.0.0.0.0.0.0.0.0.0.0.0.1,
      ne_eqb t 41 c.in_default.in_default-own.rest.0.0.0.0.0.0.0.0.0.0.0.0.0.0.1,
      ne_eqb t 55 c.in_default.in_default-own.rest.0.0.0.0.0.0.0.0.0.0.0.0.0.1,
      ne_eqb t 38 c.in_default.in_default-own.rest.0.0.0.0.0.0.0.0.0.0.0.0.1,
      ne_eqb t 110 c.in_default.in_default-own.rest.0.0.0.0.0.0.0.0.0.0.0.1,
      ne_eqb t 109 c.in_default.in_default-own.rest.0.0.0.0.0.0.0.0.0.0.1,
      ne_eqb t 44 c.in_default.in_default-own.rest.0.0.0.0.0.0.0.0.0.1,
      ne_eqb t 60 c.in_default.in_default-own.rest.0.0.0.0.0.0.0.0.1,
      ne_eqb t 21 c.in_default.in_default-own.rest.0.0.0.0.0.0.0.1,
      ne_eqb t 40 c.in_default.in_default-own.rest.0.0.0.0.0.0.1,
      ne_eqb t 47 c.in_default.in_default-own.rest.0.0.0.0.0.1,
      ne_eqb t 54 c.in_default.in_default-own.rest.0.0.0.0.1,
      ne_eqb t 59 c.in_default.in_default-own.rest.0.0.0.1,
      ne_eqb t 8060 c.in_default.in_default-own.rest.0.0.1,
      ne_eqb t 544 c.in_default.in_default-own.rest.0.1,
      ne_eqb t 8214 c.in_default.in_default-own.rest.1,
    )
