-- What the two coders of decisions read and write: the arithmetic coder (ITU-T T.800, Annex C) and raw bits (D.6).
pub mod MqReading
pub mod MqTable
pub mod MqWriting
pub mod RawBits
