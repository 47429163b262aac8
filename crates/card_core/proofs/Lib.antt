mod Lending
mod Operands
mod Statements
mod Words
