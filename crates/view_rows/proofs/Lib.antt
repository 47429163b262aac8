mod CodeClasses
