-- Places: what is done at the place that is sought is what the definitions say. Lent: what C is handed of totals. OnFile: what a call on one file does is what they say. Whole: a call that changes
-- more than one file does what the definitions say. Gathering: so does the end of grace to the intents of one. Turns: so does a listing in place. Parting: so does LAYOUTRETURN. Ended: so does an intent that ends. SetUp: so does the
-- set-up of a stateid. Tallying: a report without statistics has no totals. Settling: a return is settled by the two halves of a walk as
-- the definitions say.
mod Places
mod Lent
mod OnFile
mod Whole
mod Ended
mod Gathering
mod Turns
mod Parting
mod SetUp
mod Tallying
mod Settling
